pub mod Whole
pub mod Pairs
