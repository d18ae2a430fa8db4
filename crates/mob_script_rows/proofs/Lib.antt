pub mod Examples
pub mod TableExamples
