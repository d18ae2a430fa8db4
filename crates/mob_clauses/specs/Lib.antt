pub mod Clauses
pub mod Conditions
pub mod Keys
pub mod Outputs
