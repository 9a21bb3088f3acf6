-- Engines whose frames have as many numbers going in as coming out.
use Rattle.std.specs.Prelude.{◌≡◌, ℕ, ◌<◌, length}
use Rattle.fv_signal.specs.declared.signal.Signal.{Signal}
use Rattle.fv_signal.specs.declared.signal.Signal.TheVariants.{Input, Control}
use Rattle.fv_split_plan.specs.Code.{NamesHeld}
use Rattle.fv_engine.specs.Stands.{EngineView}

-- an engine for frames of width numbers in and out, for blocks of block frames, and for this many controls
pub record IsSquare (e : EngineView) (width block controls : ℕ) : Type 0 where
  pub channels : e.channels ≡ width
  pub outputs : length e.plan.outputs ≡ width
  pub block_is : e.block ≡ block
  pub named : (k : ℕ) → NamesHeld e.plan.held k → k < controls

-- a signal that is an input or a control is one of the first ones of these numbers
pub record IsNamedWithin (channels controls : ℕ) (x : Signal) : Type 0 where
  pub inputs : (i : ℕ) → x ≡ Input i → i < channels
  pub controls_are : (k : ℕ) → x ≡ Control k → k < controls
