pub mod Edit
pub mod Table
pub mod Demand
pub mod Slices
pub mod Run
