pub mod Rows
pub mod Shape
pub mod Places
pub mod Helpers
pub mod Endings
