pub mod Lines
pub mod Layers
