pub mod Listing
pub mod Answer
pub mod Page
