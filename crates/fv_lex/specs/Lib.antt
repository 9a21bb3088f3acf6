pub mod headline
pub mod Token
pub mod Spans
pub mod Cuts
pub mod Carried
pub mod Examples
pub mod inner
-- what it hands on of crates below
pub use Rattle.fv_base.specs.declared.limits as Limits
pub use Rattle.fv_base.specs.headline.Digits
pub use Rattle.fv_num.specs.declared.op.Op
