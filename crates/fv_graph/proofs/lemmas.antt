-- The lemmas that proofs of other crates take.
pub mod Counts
pub mod Graphs
pub mod ReadsLemmas
pub mod Ranges
pub mod Grouping
pub mod EndsLemmas
pub mod Opens
pub mod Few
pub mod Places
pub mod Dealing
