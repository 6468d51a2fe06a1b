-- What each value must fit.
pub mod Fits
-- What `write` returns and leaves.
pub mod Written
