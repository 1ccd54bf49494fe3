pub mod Accepts
pub mod Tables
pub mod State
pub mod Following
