pub mod Edges
pub mod Groups
pub mod Pieces
pub mod Split
