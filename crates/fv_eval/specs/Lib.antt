pub mod Evaluated
pub mod inner
-- what it hands on of crates below
pub use Rattle.fv_rules.specs.declared.refusal.EvalRefusal
pub use Rattle.fv_rules.specs.headline.Rules
