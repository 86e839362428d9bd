pub mod Pieces
pub mod Rounds
pub mod Owners
pub mod Paces
pub mod Runs
pub mod Teams
