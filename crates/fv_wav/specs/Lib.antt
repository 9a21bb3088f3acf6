pub mod headline
pub mod Stopping
pub mod Samples
pub mod Files
pub mod Written
pub mod Examples
pub mod inner
-- what it hands on of crates below
pub use Rattle.fv_pcm.specs.Words
