pub mod Points
pub mod Members
pub mod Sets
pub mod Exclusives
pub mod Plan
pub mod Gradients
pub mod LeftOut
