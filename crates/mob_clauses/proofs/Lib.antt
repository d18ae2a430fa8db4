pub mod Joined
pub mod Limits
pub mod Listed
pub mod Pushed
