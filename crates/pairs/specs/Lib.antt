-- What the contracts of this crate and of the engine cite.
pub mod Pairs
pub mod Spots
pub mod Scene
