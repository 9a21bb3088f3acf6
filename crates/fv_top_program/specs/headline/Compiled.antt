-- What a program is, what the code's programs are, and that they can be played.
use Rattle.std.specs.Prelude.{List}
use Rattle.fv_interval.specs.Diagram.{Diagram}
use Rattle.fv_interval.specs.ControlInfo.{ControlInfo}

-- a program: its diagram, and its controls
pub record Compiled : Type 0 where
  pub diagram : Diagram
  pub controls : List ControlInfo
