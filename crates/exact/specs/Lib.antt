-- What holds of the float decisions about the circles of two heads.
pub mod Circle
pub mod Points
pub mod Decisions
