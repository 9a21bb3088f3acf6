pub mod Continuations
pub mod Names
