pub mod lemmas
pub mod SpansWalked
