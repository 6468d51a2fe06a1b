-- What the crate's contracts cite, and worked examples of it.
pub mod Mesh
pub mod Shared
pub mod Halves
pub mod Examples
