pub mod Meant
pub mod Stages
pub mod Promise
pub mod Played
pub mod Jobs
