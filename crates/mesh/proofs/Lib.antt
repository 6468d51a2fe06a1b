-- The laws of routes and shared links. What the crates above cite stands in Theorems.
pub mod Places
pub mod Spans
pub mod Runs
pub mod Walks
pub mod Counts
pub mod Sides
pub mod Theorems
mod Examples
