pub mod Tests
pub mod Writing
