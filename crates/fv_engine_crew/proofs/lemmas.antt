-- The lemmas that proofs of other crates take.
pub mod Edges
pub mod Handing
