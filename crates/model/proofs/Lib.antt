-- The theorems about the verdicts of a plan's flows.
pub mod Links
pub mod Those
pub mod Judged
pub mod Verdicts
pub mod Bounds
pub mod Fits
pub mod Sides
pub mod PaperSets
pub mod FlowLines
pub mod Ticks
pub mod Direct
pub mod PaperParts
pub mod Paper
pub mod SameAnswers
pub mod PriorityFlits
pub mod Methods
pub mod Numbered
pub mod MethodByte
pub mod Figures
mod Examples
mod PaperTables
mod PaperApart
mod Ruled
