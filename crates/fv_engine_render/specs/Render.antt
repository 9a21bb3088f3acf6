-- What calls say beside `headline/Render`: a diagram that is played in blocks, by a graph of it (this project's profile).
use Rattle.std.specs.Prelude.{◌≡◌, ℕ, ◌≤◌, List, length, Option}
use Rattle.fv_base.specs.declared.limits.TheConstants.{MOST_BLOCK, MOST_CHANNELS, MOST_VECTORS, MOST_WORKERS}
use Rattle.fv_outside.specs.headline.Journal.{Told}
use Rattle.fv_diagram.specs.headline.Diagram.{Diagram, inputs, outputs}
use Rattle.fv_diagram.specs.Diagram.{control_bound}
use Rattle.fv_diagram.specs.declared.control.ControlInfo.{ControlInfo}
use Rattle.fv_control.specs.declared.script.Change.{Change}
use Rattle.fv_interval.specs.headline.Controls.{spans_of}
use Rattle.fv_signal.specs.headline.Value.{Graph}
use Rattle.fv_engine.specs.Block.{vectors_of}
use Rattle.fv_engine_render.specs.headline.Plans.{IsGraphOf}
use Rattle.fv_engine_render.specs.declared.blocks.RunSizes.{RunSizes}
use Rattle.fv_engine_render.specs.declared.blocks.Ran.{Ran}
use Rattle.fv_engine_render.specs.headline.Render.{RanTo}

-- A diagram that can be played in blocks: it has an output, a file may have as many channels as it has inputs, and all its controls are
-- there.
pub record CanRender (d : Diagram) (controls : List ControlInfo) : Type 0 where
  pub some : 1 ≤ outputs d
  pub few : inputs d ≤ MOST_CHANNELS
  pub reads : control_bound d ≤ length controls

-- A graph of a diagram that can be played, with these channels and controls: the diagram has an output, and all its controls are
-- there.
pub record CanBePlayed (d : Diagram) (g : Graph) (channels : ℕ) (controls : List ControlInfo) : Type 0 where
  pub of : IsGraphOf d (spans_of controls) g
  pub channels_are : channels ≡ inputs d
  pub some : 1 ≤ outputs d
  pub few : inputs d ≤ MOST_CHANNELS
  pub reads : control_bound d ≤ length controls

-- sizes that an engine takes
pub record CanHave (s : RunSizes) : Type 0 where
  pub some : 1 ≤ s.block
  pub block : s.block ≤ MOST_BLOCK
  pub vector : 1 ≤ s.vector
  pub vectors : vectors_of s.block s.vector ≤ MOST_VECTORS
  pub one : 1 ≤ s.workers
  pub workers : s.workers ≤ MOST_WORKERS

-- the blocks of all frames of a diagram's run ran
abbrev pub RanWhole : Diagram → List ControlInfo → List Change → RunSizes → Ran → (old new : Option Told) → Type 0
RanWhole d cs changes s r old new = RanTo d cs changes s s.frames r old new

-- where a diagram has an output, each run of it that has a block has a loop
abbrev pub RunsHaveLoops : Type 0
RunsHaveLoops =
    (d : Diagram) (cs : List ControlInfo) (changes : List Change) (s : RunSizes) (r : Ran) (old new : Option Told) → RanWhole d cs changes s r old new
    → 1 ≤ outputs d → 1 ≤ r.blocks → 1 ≤ r.loops
