pub mod Blocks
pub mod Dashes
pub mod Filled
pub mod Numbers
pub mod Receipts
