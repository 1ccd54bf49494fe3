pub mod Parts
pub mod Panel
pub mod Inside
