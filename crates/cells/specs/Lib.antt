pub mod Arc
