pub mod Nodes
pub mod Choices
pub mod Reducible
pub mod Rebuilt
pub mod Simpler
pub mod Folding
pub mod Folded
pub mod Kept
pub mod inner
pub mod Passing
pub mod Runs
pub mod Simplified
pub mod Examples
-- what its public clauses cite of crates below
pub use Rattle.fv_signal.specs.headline.Value
pub use Rattle.fv_signal.specs.Value as ValueBeside
pub use Rattle.fv_num.specs.headline.Frames
pub use Rattle.fv_analysis.specs.headline.Stands
pub use Rattle.fv_share.specs.Drafts
