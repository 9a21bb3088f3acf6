pub mod headline
pub mod Requests
pub mod Desk
pub mod Drawer
pub mod Stored
pub mod Memory
pub mod Counts
pub mod Tasks
pub mod Journal
pub mod Recorded
pub mod Examples
pub mod inner
pub mod Acts
-- what it hands on of crates below
pub use Rattle.fv_base.specs.declared.role.Role
pub use Rattle.fv_base.specs.headline.Lists
