pub mod Batches
pub mod Forwarding
