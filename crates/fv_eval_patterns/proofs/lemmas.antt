-- The lemmas that proofs of other crates take.
pub mod Matched
pub mod LongPatterns
pub mod InOrder
