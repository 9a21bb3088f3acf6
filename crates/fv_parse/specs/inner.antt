pub mod Visits
pub mod Outcomes
pub mod StaticErrors
