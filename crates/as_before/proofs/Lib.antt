pub mod Alike
pub mod Stays
pub mod Others
