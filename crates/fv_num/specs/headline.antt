pub mod Words
pub mod Interval
pub mod Spans
pub mod Frames
pub mod Valuation
pub mod Tables
pub mod Primitives
