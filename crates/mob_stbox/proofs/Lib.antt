pub mod Sides
pub mod BoxLaws
pub mod Moves
mod Examples
