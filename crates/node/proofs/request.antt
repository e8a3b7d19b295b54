-- Laws that a request rests on.
pub mod Cases
pub mod Ways
