pub mod Columns
pub mod Pauses
pub mod Tried
pub mod Going
mod Steps
pub mod First
