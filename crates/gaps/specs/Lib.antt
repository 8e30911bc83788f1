pub mod Gaps
pub mod Marks
pub mod Numbers
