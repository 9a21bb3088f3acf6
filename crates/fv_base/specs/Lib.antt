pub mod headline
pub mod Arena
