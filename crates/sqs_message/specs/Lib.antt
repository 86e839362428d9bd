pub mod Beside
pub mod Bodies
pub mod Handles
pub mod Ids
pub mod Sources
