pub mod Digits
mod Pushing
pub mod Chain
mod Examples
