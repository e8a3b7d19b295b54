-- Laws of slots, of the table of them, and of payloads.
pub mod Table
pub mod Streams
pub mod InOrder
pub mod Finding
pub mod Upward
pub mod Payloads
