pub mod Counts
pub mod Unique
pub mod Whole
