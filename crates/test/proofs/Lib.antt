pub mod Obeying
pub mod Following
pub mod Refound
pub mod Whole
pub mod Unique
