pub mod Divisors
pub mod Dollars
pub mod Rounding
