-- The lemmas that proofs of other crates take.
pub mod Registers
pub mod Tasks
pub mod Streams
pub mod Named
