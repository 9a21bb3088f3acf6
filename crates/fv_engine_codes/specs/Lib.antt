pub mod Cells
pub mod Lanes
pub mod Renumbered
pub mod Plans
pub mod Codes
pub mod inner
