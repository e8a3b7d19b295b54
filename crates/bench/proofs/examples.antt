-- Histories that keep the rules, and histories and plans that break each of them.
pub mod ExampleHistories
pub mod MomentTen
pub mod ImproperPlans
pub mod RuleBreakers
pub mod Faults
pub mod EightModules
pub mod NotEmpty
