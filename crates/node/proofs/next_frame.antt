-- Laws that the next frame rests on.
pub mod Cases
pub mod Ways
pub mod Lowest
pub mod GivesLowest
