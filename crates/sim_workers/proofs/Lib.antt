pub mod Sendings
pub mod Prefixes
pub mod Handing
pub mod Refused
pub mod Ended
