-- How an engine's run over a tape stops (this project's profile).
use Rattle.std.specs.Prelude.{◌≡◌, ℕ, ◌*◌, List, length, ℤ, Option}
use Rattle.fv_outside.specs.headline.Journal.{Told}
use Rattle.fv_outside.specs.Acts.{Act}
use Rattle.fv_control.specs.declared.script.Change.{Change}
use Rattle.fv_control.specs.headline.Streams.{control_streams}
use Rattle.fv_engine.specs.Stands.{EngineView}
use Rattle.fv_engine_render.specs.headline.Blocks.{StillTells}
use Rattle.fv_engine_render.specs.inner.Plans.{AreNumbers}
use Rattle.fv_engine_render.specs.headline.Runs.{HasRun}
use Rattle.fv_engine_render.specs.inner.Runs.{PlaysAll}
use Rattle.fv_engine_render.specs.Stops.{IsAct}
use Rattle.fv_engine_render.specs.declared.blocks.RunSizes.{RunSizes}
use Rattle.fv_engine_render.specs.declared.blocks.Ran.{Ran}

-- An engine's blocks up to some frame ran, and were told. These samples were heard, and the engine answers those that were said.
pub record HasStopped (e : EngineView) (s : RunSizes) (changes : List Change) (initial : List ℤ) (old new : Option Told)
    (Stopped : (heard said : List ℤ) → Act → Type 0) : Type 0 where
  pub frame : ℕ
  pub ran : Ran
  pub run : HasRun e.plan s changes frame ran old new
  pub room : StillTells ran.blocks ran.loop_runs (ran.blocks * length e.plan.reads) old new
  pub heard : List ℤ
  pub long : length heard ≡ frame * e.channels
  pub fit : AreNumbers heard
  pub all : List ℤ
  pub count : length all ≡ frame * length e.plan.outputs
  pub plays : PlaysAll e (control_streams changes initial) frame heard all
  pub said : List ℤ
  pub act : Act
  pub is : IsAct s.block s.frames changes frame said all act
  pub stopped : Stopped heard said act
