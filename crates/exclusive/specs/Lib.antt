pub mod RowOrder
pub mod Exclusive
pub mod Entries
