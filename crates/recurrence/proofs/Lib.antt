-- The laws of one flow's recurrence. What a buyer reads, and the crates above cite, stands in Theorems; the laws of `up` and of sums beside it.
pub mod Quotients
pub mod Sums
mod Climbing
mod Counting
mod Windows
mod Computed
pub mod Theorems
mod Examples
