mod Replying
mod Telling
mod Bytes
mod Deciding
pub mod Demands
pub mod PriorityFlits
pub mod HouseDefault
mod Examples
