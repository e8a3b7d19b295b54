pub mod Lists
pub mod Bench
pub mod SetUp
pub mod Events
pub mod Rules
pub mod Demands
pub mod MomentTen
pub mod Dummies
