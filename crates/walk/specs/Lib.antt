pub mod Packed
pub mod Above
pub mod Cycle
pub mod Onward
pub mod Taken
