pub mod Writing
pub mod Theorems
pub mod Records
mod BigEndian
mod Examples
