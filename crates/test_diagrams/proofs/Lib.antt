pub mod BuiltLemmas
pub mod Playing
