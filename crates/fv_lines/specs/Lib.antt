pub mod Shape
pub mod Hold
pub mod Writer
pub mod Seen
pub mod Row
pub mod Flat
pub mod Solo
pub mod Cut
-- what it hands on of crates below
pub use Rattle.fv_pool.specs.declared.loan.Halves
pub use Rattle.fv_loopcode.specs.Lanes as LanesBeside
pub use Rattle.fv_loopcode.specs.headline.Lanes
