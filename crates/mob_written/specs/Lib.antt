pub mod Prefix
pub mod Literal
pub mod ValueText
pub mod Values
pub mod Neighbours
pub mod Printed
pub mod FromLeft
pub mod Style
