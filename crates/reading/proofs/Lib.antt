pub mod Fresh
pub mod Whole
pub mod Bytes
pub mod Fields
