pub mod Each
pub mod Entries
pub mod Changing
pub mod Faults
pub mod Tests
pub mod Rising
pub mod Among
pub mod Left
