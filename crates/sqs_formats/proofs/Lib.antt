pub mod OnLiterals
pub mod Readings
pub mod Versions
