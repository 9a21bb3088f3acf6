pub mod Inputs
pub mod Sources
pub mod Output
pub mod Loading
