-- What calls say beside `headline/Propagated`: how long the delays of a graph of signals are (this project's profile).
use Rattle.std.specs.Prelude.{◌⊎◌, ℕ, ◌≤◌, List, Contains}
use Rattle.fv_signal.specs.declared.signal.Signal.TheVariants.{Delay}
use Rattle.fv_signal.specs.headline.Value.{Graph, StandsAt}

-- the greatest number of each delay is 1 at most, or one of these
abbrev pub DelaysAreAmong : List ℕ → Graph → Type 0
DelaysAreAmong delays g = (s x back max : ℕ) → StandsAt g s (Delay x back max) → (max ≤ 1) ⊎ Contains delays max
