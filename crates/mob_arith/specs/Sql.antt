-- What the operators of SQL mean, and their entries.
pub mod Calculations
pub mod Factors
pub mod Arithmetic
pub mod Lifting
pub mod Entries
pub mod Wide
