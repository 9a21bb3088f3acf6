pub mod Pending
pub mod Arena
