-- The definitions that the promises of node_bytes cite.
pub mod Layout
pub mod Decoding
pub mod Encoding
pub mod Lent
pub mod LentCalls
pub mod LentHistories
pub mod Widths
pub mod Laws
pub mod WorkedNodes
pub mod WorkedHistory
