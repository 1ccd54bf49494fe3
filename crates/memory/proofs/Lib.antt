pub mod Numbers
pub mod Growing
