pub mod lemmas
pub mod HomeLemmas
pub mod RankLemmas
pub mod ReaderLemmas
pub mod MarkLemmas
pub mod NumberLemmas
pub mod PlaceLemmas
