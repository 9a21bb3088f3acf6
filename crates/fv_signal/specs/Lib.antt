pub mod headline
pub mod Value
pub mod Rows
pub mod Rates
pub mod Examples
-- what it hands on of crates below
pub use Rattle.fv_num.specs.headline.Frames
pub use Rattle.fv_num.specs.headline.Tables
pub use Rattle.fv_num.specs.headline.Words
