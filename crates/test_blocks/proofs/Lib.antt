pub mod Recorded
pub mod Noting
pub mod Paired
