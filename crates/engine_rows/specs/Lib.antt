-- What the engine makes of a row of the pair table.
pub mod Filled
pub mod Places
pub mod Rows
pub mod Search
