-- The mesh's line.
pub mod Mesh
