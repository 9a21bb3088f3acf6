-- The diagrams that numbers in a list name (this project's profile).
use Rattle.std.specs.Prelude.{ℕ, ◌<◌, List, map, All}
use Rattle.fv_diagram.specs.headline.Diagram.{Diagram}
use Rattle.fv_diagram.specs.Arena.{Arena, count_of, tree_of}

-- these numbers are of diagrams that are there
abbrev pub AreThere : Arena → List ℕ → Type 0
AreThere a ids = All (λ i. i < count_of a) ids

-- the diagrams with these numbers
abbrev pub trees_of : Arena → List ℕ → List Diagram
trees_of a ids = map (λ i. tree_of a i) ids
