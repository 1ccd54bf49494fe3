pub mod Obeys
pub mod Good
pub mod Named
pub mod Pair
pub mod Reading
