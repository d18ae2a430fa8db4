pub mod Legs
pub mod Broad
pub mod Covers
pub mod Covering
