pub mod Answers
pub mod Columns
pub mod Names
pub mod Scopes
