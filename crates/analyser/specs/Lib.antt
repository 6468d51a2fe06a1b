-- What is returned for any bytes, and what the reply's buffer holds then.
pub mod Analysed
-- A buffer that holds the reply to a plan.
pub mod Records
