-- The lemmas that proofs of other crates take.
pub mod Lists
pub mod Places
pub mod Causality
pub mod Each
pub mod Answers
pub mod Carried
pub mod Sums
pub mod Turns
pub mod Counting
pub mod Meaning
pub mod Related
pub mod Trees
pub mod Composed
