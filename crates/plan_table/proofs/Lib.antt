pub mod Tags
pub mod Lengths
pub mod Numbers
mod Examples
