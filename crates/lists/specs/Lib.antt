pub mod Lists
pub mod Every
pub mod Run
pub mod Written
pub mod Some
pub mod Kept
