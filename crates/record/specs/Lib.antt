pub mod Good
pub mod Pairs
pub mod Copied
