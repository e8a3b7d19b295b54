-- What is shown of the definitions of heard.
pub mod Numbers
pub mod Storing
pub mod Ways
pub mod Passed
pub mod RoundTrip
pub mod WrittenThenRead
pub mod Windows
pub mod Replies
pub mod Unique
pub mod WorkedRecords
