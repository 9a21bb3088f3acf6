pub mod Words
pub mod Net
pub mod Graph
pub mod Wires
pub mod Reads
pub mod inner
pub mod Ends
pub mod Core
pub mod Lean
pub mod Law
pub mod Valid
pub mod Kept
pub mod Running
pub mod Stored
pub mod Ready
-- what it hands on of crates below
pub use Rattle.fv_outside.specs.Tasks as TasksBeside
pub use Rattle.fv_outside.specs.headline.Tasks
