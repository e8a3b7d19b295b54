pub mod Verdicts
pub mod Streams
pub mod Waiting
pub mod Claims
pub mod Recurrence
pub mod Sheet
pub mod InWords
