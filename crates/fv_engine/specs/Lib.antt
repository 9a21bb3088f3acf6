pub mod Past
pub mod Stands
pub mod Cores
pub mod Crews
pub mod Made
pub mod Told
pub mod Stored
pub mod inner
-- what it hands on of crates below
pub use Rattle.fv_engine_tasks.specs.headline.Block
