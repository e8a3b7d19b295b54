-- DEMAND 3: every live receiver has delivered a two-message message once, or none has.
pub mod ByCounts
pub mod Demand3
pub mod WholeHistory
