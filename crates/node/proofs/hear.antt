-- Laws that hearing a frame rests on.
pub mod Cases
pub mod Ways
pub mod EqualDlcs
