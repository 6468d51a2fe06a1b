mod Recording
mod Examples
pub mod Seventh
