pub mod Phold
pub mod Opening
pub mod Laws
pub mod Runs
