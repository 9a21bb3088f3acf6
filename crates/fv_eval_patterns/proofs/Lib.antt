pub mod BitSets
pub mod lemmas
pub mod Surveys
pub mod Parametric
