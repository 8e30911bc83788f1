pub mod Product
pub mod Sums
pub mod Squares
pub mod Axis
pub mod Core
pub mod Edge
pub mod Theorem
