pub mod Tree
pub mod Reach
pub mod Builds
pub mod Removes
pub mod Ids
pub mod Sifts
