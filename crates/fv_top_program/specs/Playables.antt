-- A program as what is played of it (this project's profile).
use Rattle.std.specs.Prelude.{◌≡◌}
use Rattle.fv_diagram.specs.headline.Diagram.{inputs, outputs}
use Rattle.fv_engine_render.specs.headline.Plans.{IsGraphOf}
use Rattle.fv_engine_render.specs.Controls.{spans_of}
use Rattle.fv_top_program.specs.headline.Compiled.{Compiled}
use Rattle.fv_top_program.specs.Compiled.{CanPlay}
use Rattle.fv_top_program.specs.declared.playable.Playable.{Playable}

-- a graph that gives what the program's diagram gives, as many inputs and outputs, and the program's controls
pub record IsPlayable (c : Compiled) (p : Playable) : Type 0 where
  pub plays : CanPlay c
  pub graph : IsGraphOf c.diagram (spans_of c.controls) p.graph
  pub inputs : p.inputs ≡ inputs c.diagram
  pub outputs : p.outputs ≡ outputs c.diagram
  pub controls : p.controls.items ≡ c.controls
