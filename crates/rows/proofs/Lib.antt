pub mod Sizes
pub mod Large
pub mod Names
pub mod Noting
pub mod Turning
pub mod Depths
pub mod Asked
