-- The dictionary's laws.
pub mod Ranges
pub mod Pieces
pub mod Names
pub mod Decided
pub mod Numbers
pub mod Buckets
pub mod Chains
pub mod Entries
pub mod Insert
pub mod Learning
pub mod Parts
