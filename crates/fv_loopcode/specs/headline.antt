pub mod Lanes
pub mod State
pub mod Code
pub mod Obeys
