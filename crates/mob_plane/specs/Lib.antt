pub mod Points
pub mod Turns
pub mod Rings
pub mod Membership
pub mod EdgeWise
pub mod Corners
