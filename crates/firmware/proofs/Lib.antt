-- What is shown of the promises of firmware.
pub mod Judging
pub mod Answering
pub mod LentAnswering
pub mod Refusals
pub mod Unique
pub mod LentUnique
pub mod Histories
pub mod LentHistories
pub mod LentPromises
