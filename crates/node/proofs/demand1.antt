-- Demand 1: a refused call changes nothing, a call gives back a node that calls made, and every reply is given.
pub mod RefusedUnchanged
pub mod CallsGiveBack
pub mod RepliesGiven
