pub mod Keeping
pub mod Hopping
