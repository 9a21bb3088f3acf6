-- What no call says beside `headline/Plans`: a graph of a diagram, its plan, and an engine that is ready to play it (this project's profile).
use Rattle.std.specs.Prelude.{ℕ, ◌<◌, List, ℤ, FitsSigned}
use Rattle.std.specs.Int.{w32}
use Rattle.fv_num.specs.headline.Words.{argument}
use Rattle.fv_signal.specs.headline.Value.{Graph}
use Rattle.fv_signal.specs.headline.Rates.{NamesControl}
use Rattle.fv_split_plan.specs.headline.Plans.{NamesChannel}

-- the numbers have 32 bits
abbrev pub AreNumbers : List ℤ → Type 0
AreNumbers xs = (i : ℕ) → FitsSigned w32 (argument xs i)

-- the graph names only channels and controls that are there
pub record NamesOnly (g : Graph) (channels controls : ℕ) : Type 0 where
  pub inputs_there : (i : ℕ) → NamesChannel g i → i < channels
  pub controls_there : (k : ℕ) → NamesControl g k → k < controls
