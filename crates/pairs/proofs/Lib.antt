mod Filling
pub mod Cells
mod Standing
