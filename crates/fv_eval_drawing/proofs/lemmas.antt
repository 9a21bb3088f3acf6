-- The lemmas that proofs of other crates take.
pub mod Gathered
pub mod Entered
pub mod Again
