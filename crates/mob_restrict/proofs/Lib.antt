pub mod Cutting
pub mod SpansOf
pub mod Outside
pub mod Axes
pub mod ToOne
mod Examples
pub mod OneRestriction
pub mod Widely
