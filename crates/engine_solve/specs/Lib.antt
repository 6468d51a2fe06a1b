-- What a flow's recurrence is solved from.
pub mod Solving
