pub mod Around
pub mod ByName
pub mod Chosen
pub mod inner
pub mod Indexes
pub mod Leaving
pub mod Positions
pub mod Shortcuts
