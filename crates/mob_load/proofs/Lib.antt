pub mod Asked
pub mod EachCheck
pub mod EachCheckpoint
mod Literals
pub mod Examples
pub mod Fronts
pub mod Narrow
pub mod Reading
pub mod Steps
mod Stopping
pub mod Values
pub mod OneLoading
pub mod Checkpoints
pub mod Written
