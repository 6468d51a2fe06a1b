-- Document 01, "The plan's bytes": numbers in bytes.
pub mod Numbers
