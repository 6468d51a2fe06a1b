-- The reader, whose place travels with the bytes.
pub mod Reader
