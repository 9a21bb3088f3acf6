pub mod Steps
pub mod Turns
pub mod Gathers
pub mod Drains
pub mod Made
pub mod Assembled
pub mod Places
