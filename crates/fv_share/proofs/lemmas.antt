-- The lemmas that proofs of other crates take.
pub mod Same
pub mod Puts
pub mod Kept
pub mod Groups
