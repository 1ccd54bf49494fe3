pub mod Lowest
pub mod Posed
pub mod Allows
pub mod Unique
