pub mod Trees
pub mod Unsupported
pub mod Definitions
pub mod StaticErrors
pub mod Outcomes
