pub mod Ways
pub mod Known
pub mod Whole
pub mod Promises
