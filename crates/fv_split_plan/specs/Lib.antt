pub mod headline
pub mod Separated
pub mod Fits
pub mod View
pub mod Plans
pub mod Tasks
pub mod Rows
pub mod Parts
pub mod inner
-- what it hands on of crates below
pub use Rattle.fv_components.specs.headline.Reach
pub use Rattle.fv_outside.specs.headline.Tasks as TasksBeside
pub use Rattle.fv_signal.specs.headline.Value
pub use Rattle.fv_loopcode.specs.Obeys as ObeysBeside
pub use Rattle.fv_loopcode.specs.headline.Obeys
pub use Rattle.fv_loopcode.specs.headline.Code
