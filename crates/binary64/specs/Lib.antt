pub mod Units
pub mod Constants
pub mod Rounding
pub mod Magnitude
pub mod Whole
pub mod Functions
pub mod Floats
