pub mod headline
pub mod Block
pub mod Jobs
pub mod Events
pub mod Underway
pub mod Outputs
pub mod inner
