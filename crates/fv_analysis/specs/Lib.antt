pub mod headline
pub mod Stands
pub mod History
-- what its public clauses cite of crates below
pub use Rattle.fv_num.specs.headline.Frames
pub use Rattle.fv_num.specs.Frames as FramesBeside
pub use Rattle.fv_signal.specs.headline.Value
pub use Rattle.fv_signal.specs.Value as ValueBeside
pub use Rattle.fv_signal.specs.headline.Rates
pub use Rattle.fv_signal.specs.Rates as RatesBeside
pub mod inner
