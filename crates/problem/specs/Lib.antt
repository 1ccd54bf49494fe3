pub mod Problem
pub mod Answer
pub mod Judgement
pub mod Allowing
