pub mod Circles
pub mod Tables
pub mod LeftOut
pub mod Examples
