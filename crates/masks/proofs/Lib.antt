pub mod Spread
pub mod SpreadPlaces
