-- The definitions that the promises of heard cite.
pub mod Replies
pub mod Kinds
pub mod Records
pub mod Reading
pub mod Writing
pub mod Answers
pub mod Recordings
pub mod RoundTrip
pub mod Windows
pub mod WorkedRecords
