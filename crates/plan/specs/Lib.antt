-- Document 01, "The plan's bytes" and "What sends a plan back", as definitions that compute; Legal, Layout and Reasons say it without a reader.
pub mod Records
pub mod Padded
pub mod Reading
pub mod Legal
pub mod Layout
pub mod Refusals
pub mod Reasons
pub mod PlanP
