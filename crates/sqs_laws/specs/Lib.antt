pub mod Words
pub mod Laws
pub mod Log
pub mod Reach
pub mod Sends
