pub mod Contents
pub mod Bodies
pub mod inner
pub mod Collected
pub mod Dealt
pub mod Entries
pub mod Opening
pub mod Rooms
pub mod Swapped
pub mod Ran
pub mod Spread
-- what it hands on of crates below
pub use Rattle.fv_lines.specs.Cut
