-- Laws that a tick rests on.
pub mod Tests
pub mod Stirring
pub mod OnePass
pub mod Cases
pub mod Ways
pub mod Ascending
pub mod Deliveries
