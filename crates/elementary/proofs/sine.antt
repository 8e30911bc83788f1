-- The laws of sine and cosine: arms, the float edges, and the promise.
pub mod Arms
pub mod Entry
pub mod Exit
pub mod Promise
