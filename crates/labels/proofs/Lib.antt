pub mod Upto
pub mod Holding
pub mod Copies
pub mod Labelling
