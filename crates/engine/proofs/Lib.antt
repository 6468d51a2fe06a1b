mod Pairings
mod Turns
mod Answering
pub mod Accepted
