pub mod Fraction
pub mod Taylor
pub mod Kernel
