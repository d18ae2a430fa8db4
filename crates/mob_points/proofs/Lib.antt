pub mod PointsExact
pub mod PointsAgain
pub mod OnePoint
mod Examples
