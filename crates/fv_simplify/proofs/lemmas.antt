-- The lemmas that proofs of other crates take.
pub mod Choices
pub mod Origins
pub mod Totals
pub mod Reaches
pub mod Chains
pub mod Twice
pub mod Redirected
pub mod Kept
