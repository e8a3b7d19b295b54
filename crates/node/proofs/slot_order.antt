-- The order of the slots is seen by no caller.
pub mod Reordered
pub mod Settled
pub mod Placed
pub mod LowestOfAll
pub mod Records
pub mod EveryCall
pub mod InPlace
pub mod TickInOrder
pub mod NextFrameInOrder
pub mod InStreamOrder
pub mod BothOrders
