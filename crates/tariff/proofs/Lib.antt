pub mod Orders
pub mod Readings
pub mod Limits
pub mod Bills
