pub mod Requests
pub mod Desk
pub mod Tasks
pub mod Journal
