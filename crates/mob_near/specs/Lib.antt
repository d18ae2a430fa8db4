pub mod Distances
pub mod Approaches
pub mod Entries
pub mod Wide
pub mod Known
pub mod Sql
