pub mod Areas
pub mod Boxes
pub mod Expansion
pub mod SameBoxes
