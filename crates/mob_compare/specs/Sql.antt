-- What the operators of SQL mean, and their entries.
pub mod Signs
pub mod TrueTimes
pub mod Entries
pub mod Wide
