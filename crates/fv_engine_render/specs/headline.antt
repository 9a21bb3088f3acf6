pub mod Blocks
pub mod Runs
pub mod Plans
pub mod Render
pub mod Files
