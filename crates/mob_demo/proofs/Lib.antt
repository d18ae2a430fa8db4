pub mod Digits
pub mod Examples
pub mod Lines
pub mod Positions
mod Ranges
