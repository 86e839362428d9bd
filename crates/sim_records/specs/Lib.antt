pub mod Writes
pub mod Answers
pub mod Writers
pub mod Lines
