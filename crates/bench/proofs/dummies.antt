-- Modules that refuse or never deliver fail demand 3.
pub mod RefusingNode
pub mod DummiesFail
