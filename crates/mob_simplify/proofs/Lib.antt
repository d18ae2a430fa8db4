pub mod Along
pub mod Answering
pub mod Chains
pub mod Convexity
pub mod Deciding
pub mod Found
pub mod InTurn
pub mod NearAlong
pub mod OneRuns
pub mod Ordered
pub mod Reaching
pub mod Rectangles
pub mod Sifting
pub mod Squares
pub mod Stepping
pub mod Tidied
mod Examples
