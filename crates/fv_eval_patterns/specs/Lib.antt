pub mod Bits
pub mod Loans
pub mod Patterns
pub mod Remembered
pub mod Shapes
pub mod Surveyed
pub mod Trials
