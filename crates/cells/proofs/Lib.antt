pub mod Plain
pub mod Tests
pub mod Cell
pub mod Turns
