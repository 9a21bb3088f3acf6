pub mod headline
pub mod Propagated
-- what its public clauses cite of crates below
pub use Rattle.fv_diagram.specs.headline.Diagram
pub use Rattle.fv_diagram.specs.Diagram as DiagramBeside
pub use Rattle.fv_diagram.specs.Arena
pub use Rattle.fv_interval.specs.headline.Delays
pub use Rattle.fv_interval.specs.Delays as DelaysBeside
pub use Rattle.fv_num.specs.headline.Frames
pub use Rattle.fv_num.specs.headline.Interval
pub use Rattle.fv_num.specs.Interval as IntervalBeside
pub use Rattle.fv_num.specs.SpanLaws
pub use Rattle.fv_signal.specs.headline.Value
pub use Rattle.fv_signal.specs.Value as ValueBeside
pub use Rattle.fv_share.specs.Drafts
pub mod inner
pub use Rattle.fv_interval.specs.headline.Laws
pub use Rattle.fv_interval.specs.headline.SpanHooks
pub use Rattle.fv_signal.specs.declared.signal.Signal
