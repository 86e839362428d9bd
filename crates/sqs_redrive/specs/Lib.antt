pub mod Transfers
pub mod MoveTasks
pub mod Received
