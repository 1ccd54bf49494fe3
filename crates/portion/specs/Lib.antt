pub mod Portion
