pub mod headline
pub mod Made
pub mod Examples
pub mod Noises
pub mod Voices
