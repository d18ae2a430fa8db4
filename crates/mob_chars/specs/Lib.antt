pub mod Scan
pub mod Signs
pub mod Tokens
pub mod Layout
