pub mod Lists
pub mod Digits
pub mod Limits
