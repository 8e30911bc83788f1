pub mod Cases
pub mod Distance
pub mod Limits
pub mod Outlines
pub mod Pair
pub mod Relation
pub mod AsBefore
