pub mod Numbers
pub mod Batches
pub mod Giving
pub mod Taking
pub mod Coming
pub mod FifoKind
