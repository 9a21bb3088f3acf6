pub mod lemmas
pub mod Progress
pub mod Steps
pub mod Endings
