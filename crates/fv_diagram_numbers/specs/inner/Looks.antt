-- Looking for what a table's numbers may not depend on, piece by piece (this project's profile).
use Rattle.std.specs.Prelude.{◌≡◌, ℕ, ◌+◌, ◌*◌, ◌<◌, Bool, true, false, ◌&&◌, List, [], ◌∷◌, drop}
use Rattle.fv_diagram.specs.headline.Diagram.{size}
use Rattle.fv_diagram.specs.Arena.{Arena, count_of, tree_of}
use Rattle.fv_diagram_numbers.specs.declared.fixed.Look.{Look}
use Rattle.fv_diagram_numbers.specs.declared.fixed.Look.TheVariants as look
use Rattle.fv_diagram_numbers.specs.headline.Heads.{is_closed}

-- a diagram that is looked at is there
abbrev pub IsInside : Arena → Look → Type 0
IsInside a (look.At id) = id < count_of a
IsInside a look.Leave = Unit {0}

-- each of them is
abbrev pub AreInside : Arena → List Look → Type 0
AreInside a [] = Unit {0}
AreInside a (l ∷ ls) = IsInside a l × AreInside a ls

-- all that is still to be looked at is closed, each diagram under the slots that are bound then
abbrev pub are_closed : Arena → (bound : List ℕ) → List Look → Bool
are_closed a bound [] = true
are_closed a bound (look.At id ∷ ls) = is_closed bound (tree_of a id) && are_closed a bound ls
are_closed a bound (look.Leave ∷ ls) = are_closed a (drop 1 bound) ls

-- a bound on the number of turns that this takes
abbrev pub weight : Arena → List Look → ℕ
weight a [] = 0
weight a (look.At id ∷ ls) = 2 * size (tree_of a id) + weight a ls
weight a (look.Leave ∷ ls) = 1 + weight a ls

-- a turn leads from pieces and bound slots to others
pub record Advances (a : Arena) (ls : List Look) (bound : List ℕ) (ms : List Look) (now : List ℕ) : Type 0 where
  pub inside : AreInside a ms
  pub same : are_closed a now ms ≡ are_closed a bound ls
  pub smaller : weight a ms < weight a ls

-- it does, or it met what is not closed
abbrev pub Turns : Bool → Arena → (ls : List Look) → (bound : List ℕ) → (ms : List Look) → (now : List ℕ) → Type 0
Turns true a ls bound ms now = Advances a ls bound ms now
Turns false a ls bound ms now = are_closed a bound ls ≡ false
