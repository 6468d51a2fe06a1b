-- The words and numbers of the lines.
pub mod Words
pub mod Decimal
pub mod Items
pub mod Written
pub mod Handed
