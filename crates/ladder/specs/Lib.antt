pub mod Prices
pub mod Tiers
pub mod Steps
pub mod Charges
pub mod Ladders
