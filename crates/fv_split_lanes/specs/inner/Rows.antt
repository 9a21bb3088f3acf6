-- What each signal reads, row by row.
use Rattle.std.specs.Prelude.{◌≡◌, ℕ, ◌<◌, List, [], length, map, nat_lt, if◌then◌else◌}
use Rattle.fv_signal.specs.headline.Value.{Graph}
use Rattle.fv_components.specs.headline.Reach.{Links}
use Rattle.fv_components.specs.Reach.{next_of}
use Rattle.fv_analysis.specs.headline.Stands.{node, stand}
use Rattle.fv_split_plan.specs.headline.Separated.{operands}

-- the signals that a signal reads, where a member stands for its definition
abbrev pub reads_of : Graph → Links
reads_of g s = if nat_lt s (length g.signals) then map (stand g) (operands (node g s)) else []

-- the first n rows are those of f
pub record AreRows (f : Links) (n : ℕ) (rows : List (List ℕ)) : Type 0 where
  pub long : length rows ≡ n
  pub each : (s : ℕ) → s < n → next_of rows s ≡ f s
