pub mod CommandLine
pub mod TableAgain
pub mod ThinProgram
pub mod ThinRows
pub mod WideThin
