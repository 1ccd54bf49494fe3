pub mod Reading
pub mod Learnt
