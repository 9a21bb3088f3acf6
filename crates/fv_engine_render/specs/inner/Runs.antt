-- What no call says beside `headline/Runs`: what a run of an engine over blocks answers (this project's profile).
use Rattle.std.specs.Prelude.{◌≡◌, ℕ, List, [], length, take, ℤ}
use Rattle.fv_num.specs.headline.Frames.{Stream, rows}
use Rattle.fv_control.specs.declared.script.Change.{Change}
use Rattle.fv_control.specs.Laws.{applied}
use Rattle.fv_signal.specs.headline.Value.{Graph}
use Rattle.fv_split_plan.specs.headline.Plans.{PlanStands}
use Rattle.fv_engine.specs.Stands.{EngineView, StandsFor, played}
use Rattle.fv_engine_render.specs.headline.Blocks.{block_at}
use Rattle.fv_engine_render.specs.Blocks.{AreNext}
use Rattle.fv_engine_render.specs.declared.blocks.PlanSizes.{PlanSizes}

-- the loops of the engine's plan, and the numbers in its frames
pub record IsSizeOf (e : EngineView) (p : PlanSizes) : Type 0 where
  pub loops : p.loops ≡ e.plan.loops
  pub channels : p.channels ≡ e.channels
  pub outputs : p.outputs ≡ length e.plan.outputs

-- The output is that of a graph for which the engine stood at the beginning, on all frames of the input, under these controls.
abbrev pub PlaysAll : EngineView → (ℕ → Stream) → (frames : ℕ) → (input output : List ℤ) → Type 0
PlaysAll e c frames input output =
    (g : Graph) (s : PlanStands g e.plan) → StandsFor e g s.names [] c
    → rows (length g.outputs) frames output ≡ played g (rows e.channels frames input) c 0 frames

-- a block of n frames begins at frame f, when the changes up to the next one are in the controls' numbers
pub record BlockBegins (changes : List Change) (initial values : List ℤ) (f n next block total : ℕ) : Type 0 where
  pub here : AreNext changes f next
  pub is : values ≡ applied initial (take next changes)
  pub long : length values ≡ length initial
  pub cut : n ≡ block_at block total changes f
