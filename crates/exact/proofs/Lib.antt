-- The arguments for specs/Decisions.antt.
pub mod Chord
pub mod Distance
pub mod Tests
pub mod Steps
pub mod Coordinates
pub mod Touching
pub mod Crossing
pub mod Across
pub mod Centre
pub mod Meeting
pub mod Theorem
