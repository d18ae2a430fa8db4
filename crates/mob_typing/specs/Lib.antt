pub mod Names
pub mod Selects
pub mod Stands
pub mod Statements
pub mod WellTyped
