pub mod InBytes
pub mod InCode
pub mod InStep
pub mod Runs
pub mod Values
