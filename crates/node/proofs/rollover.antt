-- Counts that roll over agree with counts without bound.
pub mod SameAnswers
pub mod Promises
