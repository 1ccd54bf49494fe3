pub mod Classes
pub mod Tokens
pub mod Grammar
pub mod Rows
pub mod Told
pub mod Machine
