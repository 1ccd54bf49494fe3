-- The dictionary, numbers and spellings.
pub mod Names
pub mod Numbers
pub mod Spelling
pub mod Scan
pub mod Index
pub mod Source
