pub mod Inputs
pub mod Progress
pub mod Splits
pub mod Statuses
