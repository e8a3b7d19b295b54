-- The laws that no one function owns. Those of a call stand in its folder, and those of slots in `slots`.
pub mod Choices
pub mod Answering
pub mod Cases
pub mod kept
pub mod demand1
pub mod rollover
pub mod listing
pub mod slot_order
pub mod Moments
pub mod Reports
pub mod EarlierErrors
pub mod Unique
