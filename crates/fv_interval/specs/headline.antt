pub mod WireSpans
pub mod Laws
pub mod SpanHooks
pub mod Delays
pub mod Controls
