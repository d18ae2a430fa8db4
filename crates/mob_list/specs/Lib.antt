pub mod Faults
pub mod Live
