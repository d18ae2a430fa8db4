pub mod Law
pub mod Numbers
pub mod Watched
