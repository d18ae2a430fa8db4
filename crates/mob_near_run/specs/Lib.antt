pub mod CommandLine
pub mod NearAnswers
pub mod NearProgram
pub mod WideNear
