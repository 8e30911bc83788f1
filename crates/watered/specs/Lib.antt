pub mod Handed
pub mod Run
pub mod Overlap
