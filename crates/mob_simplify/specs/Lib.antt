pub mod Breaks
pub mod BreaksOf
pub mod Reaches
pub mod Runs
pub mod Skips
pub mod Tests
pub mod Thinned
pub mod Walk
