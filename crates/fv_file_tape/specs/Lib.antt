pub mod headline
pub mod Tapes
pub mod inner
-- what it hands on of crates below
pub use Rattle.fv_wav.specs.Stopping
pub use Rattle.fv_outside.specs.Acts
