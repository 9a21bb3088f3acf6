pub mod Diagram
pub mod Streams
pub mod Samples
