pub mod Machine
pub mod Turns
pub mod Judging
pub mod OneVerdict
