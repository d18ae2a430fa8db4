pub mod Aggregates
pub mod Lookup
pub mod Table
