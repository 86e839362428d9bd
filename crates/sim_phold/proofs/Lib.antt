pub mod Growing
pub mod Sound
pub mod Ways
