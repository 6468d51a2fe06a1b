-- The reply's bytes, as they are written and as they are read.
pub mod Reply
pub mod Records
