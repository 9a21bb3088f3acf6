pub mod headline
pub mod Coded
pub mod Sizes
pub mod ReadAgain
pub mod Reads
pub mod Examples
-- what it hands on of crates below
pub use Rattle.fv_num.specs.headline.Frames
pub use Rattle.fv_num.specs.headline.Words
