pub mod headline
pub mod inner
pub mod Pieces
pub mod Runs
pub mod Views
pub mod Examples
