-- What the bench in code is shown by, as far as the bench of the rules alone tells it.
pub mod GiverOwns
