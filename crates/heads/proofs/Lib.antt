pub mod Decided
pub mod Signed
pub mod AsBefore
