-- Wires side by side that are kept (this project's profile).
use Rattle.std.specs.Prelude.{◌≡◌, ℕ, ◌+◌, ◌<◌, List, Some, Ok, slice_get}
use Rattle.fv_diagram.specs.headline.Diagram.{Diagram, Par}
use Rattle.fv_diagram.specs.Arena.{Arena, count_of, tree_of}
use Rattle.fv_rules.specs.headline.Steps.{State, Eval}
use Rattle.fv_rules.specs.headline.Rules.{wires}
use Rattle.fv_eval_drawing.specs.Lists.{all_from_right}

-- n wires side by side, put from the right
abbrev pub side_by_side : ℕ → Eval Diagram
side_by_side n = all_from_right Par (wires n)

-- Putting this many wires gives this diagram, and changes nothing.
pub record IsWired (a : Arena) (count i : ℕ) : Type 0 where
  pub inside : i < count_of a
  pub put : (s : State) → side_by_side count s ≡ Ok (tree_of a i, s)

-- the diagrams that are kept are those of two wires, of three, and so on
abbrev pub AreWires : Arena → List ℕ → Type 0
AreWires a is = (k i : ℕ) → slice_get is k ≡ Some i → IsWired a (k + 2) i
