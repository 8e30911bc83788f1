-- What points, boxes and circles are: the Rust's float operations in the Rust's order.
pub mod Tolerances
pub mod Point
pub mod Bounds
pub mod Rectangle
pub mod Meeting
pub mod Moderate
pub mod Circle
pub mod AsBefore
pub mod Closed
