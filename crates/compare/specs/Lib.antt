pub mod Appear
