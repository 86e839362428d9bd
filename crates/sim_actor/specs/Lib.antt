pub mod Lives
pub mod Holdings
