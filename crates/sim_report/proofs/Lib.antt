pub mod Ascending
pub mod Comparing
pub mod Counted
mod FiguresEnd
pub mod Figuring
pub mod Groups
pub mod Kept
mod Marked
mod Named
mod Numbering
mod Placed
mod Reaching
pub mod Reporting
pub mod Tallies
pub mod Unused
