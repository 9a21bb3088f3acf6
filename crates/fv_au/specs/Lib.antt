pub mod headline
pub mod Reading
pub mod Cases
pub mod Stopping
pub mod Looking
pub mod Written
pub mod Examples
-- what it hands on of crates below
pub use Rattle.fv_pcm.specs.Words
pub use Rattle.fv_base.specs.declared.limits as Limits
