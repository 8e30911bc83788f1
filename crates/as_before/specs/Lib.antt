pub mod Alike
pub mod Former
pub mod Stays
pub mod Others
