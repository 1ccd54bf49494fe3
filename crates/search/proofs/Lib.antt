pub mod Turns
pub mod Standing
