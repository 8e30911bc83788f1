pub mod Masks
pub mod Rows
pub mod Steps
pub mod Demand
pub mod Slices
pub mod Run
