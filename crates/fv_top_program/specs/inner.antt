pub mod Layers
pub mod RackLayers
