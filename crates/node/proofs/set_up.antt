-- Laws that setting up a stream rests on.
pub mod Cases
pub mod Placing
pub mod Ways
pub mod TheSlot
