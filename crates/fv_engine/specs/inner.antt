pub mod OneLane
pub mod Kept
pub mod Opening
pub mod Plans
