pub mod Calls
pub mod Fifo
pub mod Giving
pub mod Kinds
pub mod Looking
pub mod Picked
pub mod Words
