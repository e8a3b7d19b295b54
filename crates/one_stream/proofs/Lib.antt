pub mod Truth
pub mod Sendings
pub mod Frames
pub mod Events
pub mod Histories
pub mod Twice
pub mod Books
pub mod Chain
pub mod TwoMWhy
pub mod TwoMSteps
pub mod TwoMEnd
-- What no other crate cites yet: the list of messages of a whole history, for every class; and demand 3 where counts drift apart, which
-- keeps the proofs above general in the drift.
pub mod Same
pub mod TwoMDemand
