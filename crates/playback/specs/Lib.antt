-- The definitions that the promises of playback cite, and the theorems over them.
pub mod Deliveries
pub mod Gaps
pub mod Replays
pub mod Quiet
pub mod Steps
pub mod Runs
pub mod WorkedReplays
