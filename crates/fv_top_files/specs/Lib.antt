pub mod headline
pub mod Inputs
pub mod Loading
pub mod Formats
pub mod Loaded
pub mod inner
