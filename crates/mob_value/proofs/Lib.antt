pub mod Cutting
pub mod ValueBoxes
pub mod OneSpan
pub mod Widening
pub mod OneValue
pub mod OneTime
