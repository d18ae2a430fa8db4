pub mod BandNumbers
pub mod Ranges
pub mod TileOrder
