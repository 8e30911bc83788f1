pub mod Roots
pub mod AsBefore
pub mod Closed
