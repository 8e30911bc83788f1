pub mod Open
pub mod Clipped
pub mod Scatter
pub mod Sets
pub mod Exclusives
pub mod Gradients
pub mod Closed
