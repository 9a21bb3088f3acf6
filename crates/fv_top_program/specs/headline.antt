pub mod Compiled
pub mod Answers
pub mod Program
pub mod Racks
pub mod Kinds
pub mod Runs
