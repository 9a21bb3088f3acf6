pub mod Drafts
pub mod Inside
-- what its public clauses cite of crates below
pub use Rattle.fv_signal.specs.headline.Value
pub use Rattle.fv_signal.specs.Value as ValueBeside
