pub mod Places
pub mod Replies
pub mod Counts
pub mod LentCounts
pub mod Histories
pub mod Unique
