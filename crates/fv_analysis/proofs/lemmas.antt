-- The lemmas that proofs of other crates take.
pub mod StandLemmas
pub mod RateLemmas
pub mod HistoryLemmas
