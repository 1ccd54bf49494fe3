pub mod Table
pub mod Spans
pub mod Blocks
pub mod Classing
pub mod Counting
