-- What the engine adds up for a pair of flows.
pub mod Loads
pub mod Kept
