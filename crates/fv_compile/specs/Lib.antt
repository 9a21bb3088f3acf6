pub mod Jobs
pub mod Joined
pub mod inner
pub mod headline
pub mod Parts
pub mod OfParts
-- what its public clauses cite of crates below
pub use Rattle.fv_analysis.specs.headline.Stands
pub use Rattle.fv_analysis.specs.Stands as StandsBeside
pub use Rattle.fv_signal.specs.headline.Value
pub use Rattle.fv_signal.specs.Value as ValueBeside
pub use Rattle.fv_diagram.specs.headline.Streams
pub use Rattle.fv_propagate.specs.headline.Propagated
pub use Rattle.fv_propagate.specs.Propagated as PropagatedBeside
