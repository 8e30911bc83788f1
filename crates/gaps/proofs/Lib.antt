pub mod Next
pub mod Owning
pub mod Numbering
pub mod Marking
