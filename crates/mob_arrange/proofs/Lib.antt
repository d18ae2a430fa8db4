mod Carried
mod Given
pub mod OneOrder
mod Places
pub mod Orders
pub mod Seen
mod WholeNumbers
