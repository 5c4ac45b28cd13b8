pub mod Codes
pub mod Copies
mod Numbers
pub mod LineBuffers
