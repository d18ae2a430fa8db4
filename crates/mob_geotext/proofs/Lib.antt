pub mod SpansExact
pub mod SpansRead
pub mod SetsRead
pub mod SpansAgain
pub mod OneReadings
pub mod BoxesExact
pub mod BoxesRead
pub mod BoxesAgain
pub mod PolygonsExact
pub mod PolygonsRead
pub mod PolygonsAgain
pub mod JoinedWritten
mod PolygonTexts
mod BoxExamples
