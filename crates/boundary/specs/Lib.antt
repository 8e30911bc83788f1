pub mod Sort
pub mod Marks
pub mod Outline
pub mod Gaps
pub mod Set
pub mod NoArc
pub mod Identical
pub mod Measured
