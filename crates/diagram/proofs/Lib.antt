pub mod Laying
pub mod Alike
pub mod Leaving
