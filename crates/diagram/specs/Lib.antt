pub mod Rows
pub mod Drawing
pub mod Diagram
