pub mod Keeping
pub mod AsBefore
pub mod Closed
