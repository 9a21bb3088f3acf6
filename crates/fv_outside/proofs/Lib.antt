pub mod lemmas
pub mod StoredLemmas
pub mod Walks
pub mod Recordings
