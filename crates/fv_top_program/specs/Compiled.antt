-- What calls say beside `headline/Compiled`: what a program is, what the code's programs are, and that they can be played.
use Rattle.std.specs.Prelude.{◌≤◌, ◌<◌, ◌^◌, All, length}
use Rattle.fv_base.specs.declared.limits.TheConstants.{MOST_CHANNELS}
use Rattle.fv_interval.specs.Arena.{tree_of}
use Rattle.fv_interval.specs.Diagram.{inputs, outputs}
use Rattle.fv_interval.specs.DiagramBeside.{control_bound, HasNoFreeSlot, IsWellFormed}
use Rattle.fv_interval.specs.Controls.{IsBounded}
use Rattle.fv_eval.specs.Evaluated.{Evaluated}
use Rattle.fv_top_program.specs.headline.Compiled.{Compiled}

-- the diagram and the controls
abbrev pub compiled_of : Evaluated → Compiled
compiled_of p = record { diagram = tree_of p.diagrams p.root; controls = p.controls }

-- It can be played: it is well formed and closed, names only its controls, and has some output and no more channels than files have.
pub record CanPlay (p : Compiled) : Type 0 where
  pub well : IsWellFormed p.diagram
  pub closed : HasNoFreeSlot p.diagram
  pub reads : control_bound p.diagram ≤ length p.controls
  pub controls : length p.controls < 2 ^ 32
  pub some : 1 ≤ outputs p.diagram
  pub few : outputs p.diagram ≤ MOST_CHANNELS
  pub narrow : inputs p.diagram ≤ MOST_CHANNELS
  pub bounded : All IsBounded p.controls
