pub mod Ways
pub mod Stands
pub mod Placed
pub mod Columns
pub mod Small
pub mod Tables
pub mod Unique
pub mod Places
