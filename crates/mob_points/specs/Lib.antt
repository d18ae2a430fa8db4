pub mod Points
pub mod PointText
