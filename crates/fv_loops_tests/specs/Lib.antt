pub mod Shelf
pub mod Codes
