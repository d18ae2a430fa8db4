pub mod CommandLine
pub mod TileAnswers
pub mod TileParts
pub mod TileProgram
pub mod TileTexts
