pub mod Replacing
pub mod Answers
