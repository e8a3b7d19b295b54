-- The definitions that the promises of wire cite.
pub mod Replies
pub mod Answers
pub mod Refusals
pub mod Tells
pub mod Identifiers
pub mod Classes
pub mod Frames
pub mod WorkedFrames
pub mod Settings
pub mod Delivered
pub mod Uniqueness
