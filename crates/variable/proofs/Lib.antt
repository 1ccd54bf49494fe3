pub mod Lists
pub mod States
pub mod Choices
pub mod Singles
pub mod Sequences
pub mod Contexts
