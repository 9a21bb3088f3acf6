pub mod Turns
pub mod Buffers
pub mod Lanes
pub mod Packs
