pub mod lemmas
pub mod Scoped
