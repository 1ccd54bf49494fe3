pub mod Demands
pub mod Refusals
pub mod Answers
pub mod Lists
pub mod Pages
pub mod Panels
pub mod Table
