-- What the contracts and theorems of this crate and of the crates above it cite.
pub mod Rounding
pub mod Sums
pub mod Recurrence
pub mod Held
pub mod Limits
pub mod Verdicts
pub mod ComesTo
