pub mod headline
pub mod Laws
pub mod Delays
pub mod inner
-- what it hands on of crates below
pub use Rattle.fv_diagram.specs.Arena
pub use Rattle.fv_diagram.specs.Controls
pub use Rattle.fv_diagram.specs.Diagram as DiagramBeside
pub use Rattle.fv_diagram.specs.declared.control.ControlInfo
pub use Rattle.fv_diagram.specs.headline.Diagram
pub use Rattle.fv_num.specs.headline.Interval
pub use Rattle.fv_diagram.specs.Primitive
pub use Rattle.fv_num.specs.declared.op.Op
