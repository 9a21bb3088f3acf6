pub mod Loaded
pub mod Prepared
pub mod Running
pub mod Played
pub mod Promise
pub mod Stages
