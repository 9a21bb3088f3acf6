-- The numbers of diagrams that are remembered, and arenas that only integers were added to (this project's profile).
use Rattle.std.specs.Prelude.{◌≡◌, ℕ, ◌<◌, List, ◌++◌, All, Some, None, slice_get}
use Rattle.fv_diagram.specs.declared.node.Node.{Node}
use Rattle.fv_diagram.specs.declared.node.Node.TheVariants as node
use Rattle.fv_diagram.specs.Arena.{Arena, count_of, tree_of}
use Rattle.fv_eval_scopes.specs.declared.memo.Known.{Known}
use Rattle.fv_eval_scopes.specs.declared.memo.Known.TheVariants.{Unasked, Without, Number}
use Rattle.fv_diagram_numbers.specs.headline.Numbers.{number_of}

-- what is remembered is the number of diagram i
abbrev pub IsKnown : Arena → ℕ → Known → Type 0
IsKnown a i Unasked = Unit {0}
IsKnown a i Without = (i < count_of a) × (number_of (tree_of a i) ≡ None)
IsKnown a i (Number n) = (i < count_of a) × (number_of (tree_of a i) ≡ Some n)

-- What is remembered is true of an arena.
abbrev pub Remembers : Arena → List Known → Type 0
Remembers a known = (i : ℕ) (k : Known) → slice_get known i ≡ Some k → IsKnown a i k

-- the node is an integer
abbrev pub IsInteger : Node → Type 0
IsInteger (node.Number n) = Unit {0}
IsInteger x = ⊥

-- Nothing was added but integers.
pub record AddsIntegers (old new : Arena) : Type 0 where
  pub more : List Node
  pub nodes : new.nodes ≡ old.nodes ++ more
  pub lists : new.lists ≡ old.lists
  pub integers : All IsInteger more
