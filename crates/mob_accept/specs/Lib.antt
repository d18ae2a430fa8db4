pub mod Accepts
pub mod Numbers
pub mod Outcomes
pub mod Written
