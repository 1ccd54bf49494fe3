pub mod Judged
pub mod Each
pub mod Whole
pub mod Same
