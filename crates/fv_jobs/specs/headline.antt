pub mod Jobs
pub mod File
pub mod Labels
pub mod Changes
