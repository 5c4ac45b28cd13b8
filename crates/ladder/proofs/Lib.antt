pub mod Orders
pub mod Blocks
pub mod Sums
pub mod Bounds
