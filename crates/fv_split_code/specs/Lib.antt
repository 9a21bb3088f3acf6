pub mod Emits
pub mod Emitted
pub mod Held
