-- What is shown of the replay.
pub mod Ways
pub mod Stretches
pub mod Deliveries
pub mod Held
pub mod Holding
pub mod StepCases
pub mod Following
pub mod Steps
pub mod Runs
pub mod SomeRuns
pub mod Exact
pub mod Promises
pub mod Unique
pub mod WorkedReplays
pub mod Messages
