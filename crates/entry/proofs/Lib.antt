pub mod Begun
pub mod Resumed
