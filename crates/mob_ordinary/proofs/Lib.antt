pub mod Functions
pub mod Spans
