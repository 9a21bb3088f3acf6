-- The lemmas that proofs of other crates take.
pub mod NodeLemmas
pub mod FitsLemmas
pub mod TaskLemmas
