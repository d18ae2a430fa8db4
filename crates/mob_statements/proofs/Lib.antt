mod Alike
pub mod Calls
mod Running
