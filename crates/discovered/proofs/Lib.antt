pub mod Parents
pub mod Whole
pub mod Pairs
