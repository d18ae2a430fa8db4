pub mod Pointwise
pub mod PieceLaws
pub mod Judged
pub mod Overall
pub mod OnPieces
pub mod Walking
pub mod PieceAt
pub mod AllPieces
pub mod Errors
pub mod CourseWholes
pub mod Joins
pub mod Runs
pub mod Regions
pub mod Instants
pub mod Glued
pub mod Unique
pub mod ByCourse
mod WholeSlices
mod Beside
pub mod OneFunction
pub mod Kept
