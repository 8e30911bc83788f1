pub mod Overlap
pub mod Closed
