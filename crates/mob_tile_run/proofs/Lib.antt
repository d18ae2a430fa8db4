pub mod Facts
pub mod Numbers
pub mod OneAnswer
pub mod OneFault
pub mod OneSetting
pub mod TileLaws
pub mod Tiling
pub mod Usable
