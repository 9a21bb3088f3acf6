-- A program, as contracts see it.
use Rattle.std.specs.Prelude.{ℕ, List}
use Rattle.fv_diagram.specs.Arena.{Arena}
use Rattle.fv_diagram.specs.declared.control.ControlInfo.{ControlInfo}

-- the arena, the number of the whole diagram in it, and the controls
pub record Evaluated : Type 0 where
  pub diagrams : Arena
  pub root : ℕ
  pub controls : List ControlInfo
