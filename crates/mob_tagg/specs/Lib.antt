pub mod Gathered
pub mod Last
pub mod United
pub mod Sums
pub mod UnitingLaws
pub mod Aggregates
pub mod Rows
