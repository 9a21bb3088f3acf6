pub mod Inside
pub mod Delays
pub mod SpanHooks
