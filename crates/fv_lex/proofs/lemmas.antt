-- The lemmas that proofs of other crates take.
pub mod Runs
pub mod Classes
pub mod Sound
