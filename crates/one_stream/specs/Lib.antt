pub mod Sendings
pub mod Frames
pub mod Classes
pub mod TwoM
