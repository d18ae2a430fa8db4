pub mod Along
pub mod Longest
pub mod Sizes
pub mod Quoted
pub mod Walk
