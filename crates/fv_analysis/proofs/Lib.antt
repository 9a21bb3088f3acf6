pub mod Grown
pub mod lemmas
