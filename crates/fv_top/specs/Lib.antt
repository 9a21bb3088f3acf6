pub mod headline
pub mod Examples
pub mod inner
-- what it hands on of crates below
pub use Rattle.fv_top_files.specs.headline.Loading
pub use Rattle.fv_top_files.specs.headline.Sources
pub use Rattle.fv_top_words.specs.headline.Commands
pub use Rattle.fv_top_words.specs.headline.Runs
