pub mod Words
pub mod Between
pub mod Weights
