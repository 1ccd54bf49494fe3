pub mod Stops
pub mod Counts
pub mod Lands
pub mod Runs
