mod Converting
pub mod Conversions
pub mod Approved
mod Examples
