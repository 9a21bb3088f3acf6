pub mod StepLemmas
pub mod ComputeLemmas
pub mod lemmas
pub mod HoldLemmas
