pub mod Tallies
pub mod Histories
pub mod Values
