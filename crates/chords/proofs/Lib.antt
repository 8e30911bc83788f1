pub mod Heads
pub mod Ends
pub mod Spanning
