pub mod Expression
pub mod Rows
pub mod Columns
pub mod Rule
