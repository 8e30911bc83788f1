pub mod Rising
pub mod Literal
pub mod Entry
pub mod Exit
