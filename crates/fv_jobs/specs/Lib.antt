pub mod headline
pub mod File
pub mod Between
pub mod Examples
pub mod Labels
pub mod Changes
pub mod ControlExamples
-- what its public clauses cite of crates below
pub use Rattle.fv_control.specs.headline.Script
pub use Rattle.fv_control.specs.Script as ScriptBeside
pub use Rattle.fv_control.specs.headline.Streams
pub use Rattle.fv_control.specs.Laws
pub use Rattle.fv_control.specs.declared.script.Change
