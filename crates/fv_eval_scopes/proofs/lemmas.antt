-- The lemmas that proofs of other crates take.
pub mod Added
pub mod Binders
pub mod Forks
pub mod Grown
pub mod NameTries
pub mod Numbered
pub mod Outward
pub mod Skips
