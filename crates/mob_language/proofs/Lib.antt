pub mod Exact
pub mod Heads
pub mod Lists
mod Examples
