pub mod headline
pub mod Packed
pub mod Reach
pub mod inner
