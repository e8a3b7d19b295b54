-- The definitions that the promises of firmware cite, beside those of wire and node.
pub mod Boundary
pub mod Answers
pub mod Judged
pub mod Lent
pub mod Histories
pub mod LentHistories
