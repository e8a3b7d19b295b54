-- What is shown of the definitions of response.
pub mod Claims
pub mod Gathering
pub mod InWords
pub mod Least
pub mod Limits
pub mod Listed
pub mod Rounds
pub mod Solutions
pub mod Solving
pub mod TableThree
pub mod Unique
