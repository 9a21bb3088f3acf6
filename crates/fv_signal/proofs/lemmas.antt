-- The lemmas that proofs of other crates take.
pub mod Values
pub mod Solutions
pub mod Grown
pub mod Rates
pub mod Fits
