pub mod Going
pub mod Heads
pub mod Again
pub mod Fronts
pub mod OutcomeLaws
pub mod KeptBytes
