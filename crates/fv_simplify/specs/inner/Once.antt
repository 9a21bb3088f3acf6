-- What each run of the pass makes (this project's profile).
use Rattle.std.specs.Prelude.{ℕ, List, Bool, Option}
use Rattle.fv_signal.specs.headline.Value.{Graph, IsGraph}
use Rattle.fv_simplify.specs.Rebuilt.{IsMarked, IsRebuilt, IsRoom}
use Rattle.fv_simplify.specs.Simpler.{no_room}

-- f is g with what numbers decide folded
pub record Folds (g f : Graph) : Type 0 where
  pub images : ℕ → ℕ
  pub marks : List Bool
  pub graph : IsGraph g
  pub rebuilt : IsRebuilt g f images no_room (IsMarked marks)

-- h is f with delays joined too
pub record Joins (f h : Graph) : Type 0 where
  pub images : ℕ → ℕ
  pub marks : List Bool
  pub rooms : ℕ → Option ℕ
  pub rebuilt : IsRebuilt f h images rooms (IsMarked marks)
  pub joined : IsRoom f (IsMarked marks) rooms
