-- The laws of the root, from whole numbers up.
pub mod Whole
pub mod Digits
pub mod Certificate
pub mod Scale
pub mod Neighbours
pub mod Cases
pub mod Leading
pub mod Values
pub mod Squares
pub mod Integers
pub mod Promise
