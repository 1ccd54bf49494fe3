pub mod Whole
pub mod Pages
pub mod Unique
