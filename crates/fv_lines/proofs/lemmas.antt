-- The lemmas that proofs of other crates take.
pub mod Parts
pub mod Tables
pub mod Stored
