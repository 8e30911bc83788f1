pub mod Ready
pub mod Rows
pub mod Method
pub mod Tables
pub mod Demand
