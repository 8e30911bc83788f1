pub mod Naturals
pub mod Values
pub mod Units
pub mod Patterns
pub mod Rounding
pub mod Operations
pub mod Magnitude
pub mod Error
pub mod Whole
pub mod Functions
pub mod Remainder
mod Reducing
pub mod Ranges
pub mod Constants
mod Examples
