pub mod Squares
pub mod Identical
