pub mod Checks
pub mod Fronts
pub mod Loads
pub mod Outcomes
pub mod Order
