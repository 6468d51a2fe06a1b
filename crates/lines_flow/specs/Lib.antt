-- A flow's line and a refusal's.
pub mod Flows
