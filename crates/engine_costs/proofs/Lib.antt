pub mod Costs
mod Methods
