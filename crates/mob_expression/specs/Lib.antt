pub mod Expressions
pub mod Steps
pub mod Words
