pub mod LastTag
pub mod WalkBack
pub mod OpenNames
