pub mod Scenes
pub mod Placing
pub mod Places
pub mod Searching
