-- What the operators of SQL mean, and their entries.
pub mod Nearness
pub mod Entries
