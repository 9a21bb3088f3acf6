-- The lemmas that proofs of other crates take.
pub mod Lists
pub mod Arena
