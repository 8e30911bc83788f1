pub mod Finite
pub mod Closed
pub mod Refusals
pub mod Numbers
