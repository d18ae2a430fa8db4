pub mod Named
pub mod Selects
pub mod Statements
pub mod Trees
pub mod Written
