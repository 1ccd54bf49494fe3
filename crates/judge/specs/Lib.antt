pub mod Verdict
pub mod Tokens
pub mod Tags
