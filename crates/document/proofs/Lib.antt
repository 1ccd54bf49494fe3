pub mod Filling
pub mod Labels
pub mod Cases
pub mod Answers
pub mod Promises
pub mod Lookup
