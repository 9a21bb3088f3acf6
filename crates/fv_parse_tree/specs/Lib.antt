pub mod Arena
pub mod Gives
