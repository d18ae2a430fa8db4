pub mod Rising
pub mod Threads
pub mod TreeFacts
