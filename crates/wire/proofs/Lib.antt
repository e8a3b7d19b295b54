-- What is shown of the definitions of wire.
pub mod Copied
pub mod Frames
pub mod Identifiers
pub mod LegalSettings
pub mod Reading
pub mod Records
pub mod Refusing
pub mod Replies
pub mod Unique
pub mod Variants
pub mod WorkedFrames
