pub mod Rows
pub mod Lists
pub mod Answer
pub mod Scan
pub mod Places
pub mod Known
