-- What is kept of a flow.
pub mod Figures
