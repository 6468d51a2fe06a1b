pub mod Sums
pub mod Thirds
