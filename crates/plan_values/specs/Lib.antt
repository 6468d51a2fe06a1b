-- Document 01, "The plan's bytes": the values of a record.
pub mod Values
