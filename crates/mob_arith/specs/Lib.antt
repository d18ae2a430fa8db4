pub mod Operations
pub mod Summed
pub mod Termwise
pub mod LineSummed
pub mod Sql
