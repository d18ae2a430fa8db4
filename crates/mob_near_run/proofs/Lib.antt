pub mod Facts
pub mod NearLaws
pub mod Targets
pub mod WideRows
pub mod Printing
