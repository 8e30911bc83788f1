pub mod Lists
pub mod Listing
pub mod Folds
pub mod Arrays
pub mod Simulation
pub mod Writing
pub mod Somes
pub mod Kept
