pub mod Members
pub mod Points
pub mod Heads
pub mod Counts
pub mod Alike
pub mod Closed
