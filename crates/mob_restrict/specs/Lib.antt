pub mod Cuts
pub mod Coordinates
pub mod Values
pub mod Sql
