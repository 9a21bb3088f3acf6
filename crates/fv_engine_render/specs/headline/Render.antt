-- A diagram that is played in blocks, by a graph of it (this project's profile).
use Rattle.std.specs.Prelude.{ℕ, List, map, ℤ, Option}
use Rattle.fv_outside.specs.headline.Journal.{Told}
use Rattle.fv_diagram.specs.headline.Diagram.{Diagram}
use Rattle.fv_diagram.specs.declared.control.ControlInfo.{ControlInfo}
use Rattle.fv_control.specs.declared.script.Change.{Change}
use Rattle.fv_interval.specs.headline.Controls.{spans_of}
use Rattle.fv_signal.specs.headline.Value.{Graph}
use Rattle.fv_engine_render.specs.headline.Plans.{IsGraphOf}
use Rattle.fv_engine_render.specs.headline.Runs.{RanGraphTo}
use Rattle.fv_engine_render.specs.declared.blocks.RunSizes.{RunSizes}
use Rattle.fv_engine_render.specs.declared.blocks.Ran.{Ran}

-- the numbers with which the controls begin
abbrev pub initial_of : List ControlInfo → List ℤ
initial_of cs = map (λ c. c.init) cs

-- The blocks of a diagram's run up to a frame: those of a graph that gives what the diagram gives, output by output.
pub record RanTo (d : Diagram) (cs : List ControlInfo) (changes : List Change) (s : RunSizes) (upto : ℕ) (r : Ran) (old new : Option Told) : Type 0 where
  pub graph : Graph
  pub of : IsGraphOf d (spans_of cs) graph
  pub blocks : RanGraphTo graph changes s upto r old new
