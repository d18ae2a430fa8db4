pub mod Pairs
pub mod Three
pub mod Unions
pub mod United
pub mod Joining
pub mod OneRow
pub mod RowSteps
