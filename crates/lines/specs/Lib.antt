-- The text that `bounds` prints, from the bytes and from the reply to them.
pub mod Lines
pub mod Replied
