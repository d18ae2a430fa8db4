-- What the operators of SQL mean, and their entries.
pub mod Boxes
pub mod Polygons
pub mod Entries
pub mod Wide
