pub mod EndsSeen
pub mod Faults
pub mod Fronts
pub mod Memory
pub mod Streams
pub mod Told
