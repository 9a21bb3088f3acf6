pub mod Timeless
pub mod Looks
