pub mod Longer
mod Typed
mod Returning
pub mod ReadBack
pub mod Again
pub mod Theorems
mod Examples
