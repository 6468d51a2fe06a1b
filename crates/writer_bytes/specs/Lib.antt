-- The bytes of a plan, as they are written.
pub mod PlanBytes
