pub mod Stood
pub mod Reaching
