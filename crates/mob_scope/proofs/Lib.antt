pub mod Entries
pub mod Matches
