pub mod Parts
pub mod Upto
pub mod Going
pub mod Unique
