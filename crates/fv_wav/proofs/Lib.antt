pub mod lemmas
pub mod Parts
pub mod ChunkKinds
pub mod Walks
pub mod ReadBack
pub mod Following
pub mod Outcomes
pub mod Endings
