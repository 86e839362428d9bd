pub mod Growing
pub mod Sound
