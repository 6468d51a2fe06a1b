-- The lines, the text.
mod Replied
mod Listing
pub mod Theorems
mod Printing
mod Examples
