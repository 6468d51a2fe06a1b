pub mod Putting
mod Examples
