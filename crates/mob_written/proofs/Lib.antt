pub mod Small
pub mod Prefixes
pub mod LiteralExact
pub mod Groups
