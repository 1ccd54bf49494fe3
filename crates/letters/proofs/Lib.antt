pub mod Sets
pub mod Visit
pub mod Automaton
pub mod OneLetter
pub mod Firsts
pub mod Filled
pub mod Decide
