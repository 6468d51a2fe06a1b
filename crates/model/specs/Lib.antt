-- Document 01's rules, over the flows of a plan.
pub mod Links
pub mod Latency
pub mod Numbered
pub mod Interference
pub mod Delays
pub mod Verdicts
pub mod Bounds
pub mod Rules
-- The answers in an array.
pub mod Answers
-- The same from the other side: source document 002's sets and equations.
pub mod PaperSets
pub mod PaperEquations
