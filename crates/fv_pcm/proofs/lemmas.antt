-- The lemmas that proofs of other crates take.
pub mod Widths
pub mod Reads
pub mod Samples
pub mod Again
pub mod Following
