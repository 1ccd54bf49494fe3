pub mod Columns
pub mod Levels
pub mod Steps
