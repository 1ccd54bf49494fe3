pub mod Instance
pub mod Places
pub mod Pieces
pub mod Cycle
pub mod Counting
