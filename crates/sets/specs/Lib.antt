pub mod Marked
pub mod Sets
pub mod Regions
pub mod Steps
pub mod Bytes
pub mod Examples
pub mod Alike
pub mod Closed
