pub mod headline
pub mod Lines
pub mod Layers
pub mod Fields
pub mod Parts
pub mod Examples
