pub mod headline
pub mod Lanes
pub mod State
pub mod Code
pub mod Obeys
pub mod Blocks
pub mod Examples
pub mod inner
-- what it hands on of crates below
pub use Rattle.fv_num.specs.headline.Words
pub use Rattle.fv_num.specs.headline.Tables
pub use Rattle.fv_num.specs.headline.Frames
