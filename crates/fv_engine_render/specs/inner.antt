pub mod Stopping
pub mod Plans
pub mod Runs
