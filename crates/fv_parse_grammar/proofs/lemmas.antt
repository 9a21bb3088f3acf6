-- The lemmas that proofs of other crates take.
pub mod Loops
pub mod Complete
pub mod Tokens
pub mod Sound
