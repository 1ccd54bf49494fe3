pub mod Stretches
pub mod Remaining
pub mod Sequences
pub mod Lefts
pub mod Levels
pub mod Contexts
