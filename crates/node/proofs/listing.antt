-- The listing of HURRAY-TR-0014 beside the rules.
pub mod SameAsRules
pub mod OtherThanRules
