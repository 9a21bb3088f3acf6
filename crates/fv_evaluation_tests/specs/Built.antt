-- What holds of the diagrams that the tests put.
use Rattle.std.specs.Prelude.{ℕ, ◌<◌}
use Rattle.fv_diagram.specs.Composed.{IsComposed}
use Rattle.fv_diagram.specs.Arena.{Arena, count_of, tree_of}

-- each of them is composed
abbrev pub AreComposed : Arena → Type 0
AreComposed a = (i : ℕ) → i < count_of a → IsComposed (tree_of a i)
