pub mod Images
pub mod Groups
pub mod lemmas
pub mod Joins
pub mod Whole
pub mod Beside
pub mod Propagating
pub mod Naming
