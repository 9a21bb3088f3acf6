-- The lemmas that proofs of other crates take.
pub mod Steps
pub mod Begun
pub mod FramesRead
