pub mod Inside
pub mod Listed
pub mod Page
