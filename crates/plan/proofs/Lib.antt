pub mod Padding
mod Columns
pub mod Order
pub mod Scan
mod Turns
mod Fields
pub mod Platforms
mod Growth
mod Listed
pub mod Numbered
pub mod Answered
pub mod Frames
pub mod Exact
pub mod Fuel
pub mod Alike
pub mod Enough
mod Ranks
mod Ruled
mod RuledBody
mod RuledFrame
pub mod Because
mod Examples
mod Neighbours
mod Apart
mod Sevenths
mod Edges
