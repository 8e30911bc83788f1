pub mod Line
pub mod Counts
pub mod Numbers
