-- What the operators of SQL mean, and their entries.
pub mod Times
pub mod ByValue
pub mod Coordinates
pub mod Entries
pub mod Wide
