pub mod Step
pub mod Closed
