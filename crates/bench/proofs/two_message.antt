-- The two-message class: its slot as the one-stream proof has it, and the class on the bench.
pub mod SlotSeen
pub mod TwoMessageOnBench
pub mod AllIfFull
