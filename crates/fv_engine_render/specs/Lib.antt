pub mod headline
pub mod Blocks
pub mod Plans
pub mod Render
pub mod Sources
pub mod Stops
pub mod SideBySide
pub mod Examples
pub mod inner
pub mod Files
-- what it hands on of crates below
pub use Rattle.fv_interval.specs.headline.Controls
