pub mod Holding
pub mod Places
pub mod Lines
pub mod Lawful
pub mod Spelled
pub mod lemmas
