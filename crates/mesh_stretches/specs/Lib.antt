-- What two routes share of a stretch of their links.
pub mod Stretches
