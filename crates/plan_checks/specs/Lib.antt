-- Document 01, "What sends a plan back": the checks of a record but for the scan of its fields.
pub mod Checks
