-- The lemmas that proofs of other crates take.
pub mod Numbers
pub mod Taking
pub mod Claim
pub mod Spins
pub mod Splits
pub mod Begins
pub mod Hands
pub mod Closing
pub mod Load
pub mod Claims
pub mod Arriving
pub mod Starting
pub mod Leaving
pub mod Seated
pub mod Moving
