-- How a run over a tape is set up, and how it ends early (this project's profile).
use Rattle.std.specs.Prelude.{◌≡◌, ℕ, ◌*◌, ◌<◌, List, [], ◌++◌, length, ℤ, Option}
use Rattle.fv_outside.specs.headline.Journal.{Told}
use Rattle.fv_outside.specs.Acts.{Act, Beginning, Hearing, Saying}
use Rattle.fv_diagram.specs.headline.Diagram.{Diagram, inputs, outputs}
use Rattle.fv_diagram.specs.Diagram.{IsWellFormed}
use Rattle.fv_diagram.specs.headline.Samples.{answer_on}
use Rattle.fv_diagram.specs.declared.control.ControlInfo.{ControlInfo}
use Rattle.fv_control.specs.declared.script.Change.{Change}
use Rattle.fv_control.specs.headline.Streams.{control_streams}
use Rattle.fv_interval.specs.headline.Controls.{spans_of}
use Rattle.fv_signal.specs.headline.Value.{Graph}
use Rattle.fv_split_plan.specs.headline.View.{PlanView}
use Rattle.fv_engine_render.specs.headline.Blocks.{block_at}
use Rattle.fv_engine_render.specs.headline.Plans.{IsGraphOf}
use Rattle.fv_engine_render.specs.Plans.{IsNew, IsPlanned}
use Rattle.fv_engine_render.specs.headline.Render.{RanTo, initial_of}
use Rattle.fv_engine_render.specs.declared.blocks.RunSizes.{RunSizes}
use Rattle.fv_engine_render.specs.declared.blocks.Ran.{Ran}
use Rattle.fv_engine_render.specs.declared.tape.Played.{Played}
use Rattle.fv_engine_render.specs.declared.tape.Ready.{Ready}

-- Ready for a run of a diagram: an engine of a plan of its graph, of these sizes, which stands for no frames yet; the controls' first
-- numbers; and room for the samples of a block each way.
pub record IsSetFor (d : Diagram) (cs : List ControlInfo) (s : RunSizes) (r : Ready) : Type 0 where
  pub graph : Graph
  pub of : IsGraphOf d (spans_of cs) graph
  pub plan : PlanView
  pub planned : IsPlanned graph (inputs d) (length cs) plan
  pub plan_is : r.engine.plan ≡ plan
  pub loops : r.loops ≡ plan.loops
  pub channels : r.engine.channels ≡ inputs d
  pub fresh : IsNew r.engine
  pub block : r.engine.block ≡ s.block
  pub vector : r.engine.vector ≡ s.vector
  pub workers : r.engine.workers ≡ s.workers
  pub initial : r.values.items ≡ initial_of cs
  pub hears : length r.heard.items ≡ s.block * inputs d
  pub says : length r.said.items ≡ s.block * outputs d

-- All is set for a diagram with these inputs, outputs and controls.
pub record IsSetToPlay (d : Diagram) (p : Played) (s : RunSizes) (r : Ready) : Type 0 where
  pub well : IsWellFormed d
  pub inputs_are : p.inputs ≡ inputs d
  pub outputs_are : p.outputs ≡ outputs d
  pub set : IsSetFor d p.controls.now s r

-- What a tape was asked for when it stopped, and all that the blocks up to frame f answer was said but for that.
abbrev pub IsAct : (block total : ℕ) → List Change → (f : ℕ) → (said all : List ℤ) → Act → Type 0
IsAct block total changes f said all Beginning = (f ≡ 0) × (said ≡ []) × (all ≡ [])
-- the next block was asked for, and is not there
IsAct block total changes f said all (Hearing n) = (f < total) × (n ≡ block_at block total changes f) × (said ≡ all)
-- the end of the answer could not be said
IsAct block total changes f said all (Saying w) = said ++ w ≡ all

-- How a run ends early: its blocks up to a frame ran, their answer is that of the diagram, and the tape stopped.
pub record HasEnded (d : Diagram) (cs : List ControlInfo) (changes : List Change) (s : RunSizes) (old new : Option Told)
    (Stopped : (heard said : List ℤ) → Act → Type 0) : Type 0 where
  pub frame : ℕ
  pub ran : Ran
  pub blocks : RanTo d cs changes s frame ran old new
  pub heard : List ℤ
  pub long : length heard ≡ frame * inputs d
  pub said : List ℤ
  pub act : Act
  pub is : IsAct s.block s.frames changes frame said (answer_on d (control_streams changes (initial_of cs)) frame heard) act
  pub stopped : Stopped heard said act
