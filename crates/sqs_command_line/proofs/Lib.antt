pub mod Added
pub mod Answered
pub mod Passed
pub mod Readable
pub mod Stopped
