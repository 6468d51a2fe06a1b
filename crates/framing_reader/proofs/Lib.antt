pub mod Held
pub mod Leaving
pub mod Taking
pub mod Travels
