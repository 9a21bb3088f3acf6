pub mod Values
pub mod Matching
pub mod Steps
pub mod Rules
