-- The lemmas that proofs of other crates take.
pub mod Numbers
pub mod Served
pub mod Opening
pub mod Full
pub mod Windows
