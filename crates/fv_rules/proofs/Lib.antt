pub mod Fuel
pub mod ValidValues
pub mod ValidCompositions
pub mod Valid
pub mod LiteralNumbers
pub mod Steps
