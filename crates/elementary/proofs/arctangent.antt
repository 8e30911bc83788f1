-- The laws of atan2, acos and asin: the float edges, what makes a sine and a cosine those of a point, and the promises.
pub mod Domain
pub mod Slope
pub mod Good
pub mod Exit
pub mod Aimed
pub mod Fractions
pub mod Promise
pub mod Inverse
