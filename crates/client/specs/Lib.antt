pub mod Solvable
pub mod Promises
