-- The lemmas that proofs of other crates take.
pub mod AnswerLaws
pub mod Texts
pub mod Programs
pub mod Delayed
pub mod Sums
