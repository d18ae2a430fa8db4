pub mod Demo
pub mod Examples
