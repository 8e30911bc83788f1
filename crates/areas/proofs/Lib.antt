pub mod Scattering
pub mod Slopes
pub mod ByHead
pub mod Gradients
pub mod Closed
