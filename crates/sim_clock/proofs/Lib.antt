pub mod HeapOrder
pub mod Inserted
pub mod Least
pub mod Places
pub mod Sorted
pub mod Orderings
pub mod Booleans
pub mod Lists
