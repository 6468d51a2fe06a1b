-- Document 01, "The plan's bytes": the table of records and their fields, and the numbers and places of their refusals.
pub mod Table
pub mod Refusals
