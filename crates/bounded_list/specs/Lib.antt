-- What a list of at most a fixed number of items is.
pub mod BoundedList
