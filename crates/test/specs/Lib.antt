pub mod Tested
pub mod Inside
pub mod Followed
