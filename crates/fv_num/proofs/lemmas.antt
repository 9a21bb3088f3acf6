-- The lemmas that proofs of other crates take.
pub mod Valued
pub mod Wrapped
pub mod Closed
pub mod Tables
pub mod Parts
