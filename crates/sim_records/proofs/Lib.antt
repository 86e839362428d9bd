pub mod Writes
pub mod Begun
pub mod Plain
