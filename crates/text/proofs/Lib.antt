-- For callers: `OutputLaws` composes writes, `WordLaws` says what `sameBytes` means, and `InOrder` and `RoundTrip` are theorems on the definitions.
pub mod OutputLaws
pub mod WordLaws
pub mod InOrder
pub mod RoundTrip
mod Unique
mod FindLaws
mod InputLaws
mod LineLaws
mod NumberLaws
mod PayloadLaws
mod SettingsLaws
mod Examples
