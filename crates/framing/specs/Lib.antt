-- What the contracts of this crate and of the crates above it cite.
pub mod BigEndian
pub mod Header
pub mod Put
pub mod Each
pub mod First
pub mod Returned
