-- The parts of a diagram, and the first of them.
use Rattle.std.proofs.Common.{◌≡◌, ℕ, zero, suc, ◌+◌, ◌-◌, ◌<◌, ◌≤◌, List, [], ◌∷◌, ◌++◌, take, drop, sym, ap}
use Rattle.std.proofs.Common.{◌∙◌, arith, append_assoc}
use Rattle.std.proofs.lemmas.List.{map-append}
use Rattle.std.proofs.lemmas.List.Elements.{All-push}
use Rattle.fv_diagram.specs.headline.Diagram.{Diagram, size}
use Rattle.fv_diagram.specs.Arena.{Arena, count_of, tree_of}
use Rattle.fv_diagram.proofs.lemmas.Turns.{some_size}
use Rattle.fv_diagram_numbers.specs.headline.Heads.{cut, parts}
use Rattle.fv_diagram_numbers.specs.Lists.{AreThere, trees_of}

-- the parts of diagrams, one after another
abbrev pub all_parts : Arena → List ℕ → List Diagram
all_parts a [] = []
all_parts a (i ∷ is) = parts (tree_of a i) ++ all_parts a is

-- the sizes of diagrams together
abbrev pub all_sizes : Arena → List ℕ → ℕ
all_sizes a [] = 0
all_sizes a (i ∷ is) = size (tree_of a i) + all_sizes a is

-- each is there
abbrev pub AllThere : Arena → List ℕ → Type 0
AllThere a [] = Unit {0}
AllThere a (i ∷ is) = (i < count_of a) × AllThere a is

-- What was found, and then the parts of what waits, are the whole's.
pub record Parts (a : Arena) (whole : ℕ) (found waiting : List ℕ) : Type 0 where
  pub there : AreThere a found
  pub waits : AllThere a waiting
  pub same : trees_of a found ++ all_parts a waiting ≡ parts (tree_of a whole)

-- a diagram that is its only part was found
pub parts_one : (a : Arena) (whole id : ℕ) (found rest : List ℕ) → Parts a whole found (id ∷ rest) → parts (tree_of a id) ≡ tree_of a id ∷ []
    → Parts a whole (found ++ id ∷ []) rest
parts_one a whole id found rest w h = record {
  there = All-push (λ i. i < count_of a) found id w.there w.waits.0;
  waits = w.waits.1;
  same =
      ap (λ ds. ds ++ all_parts a rest) (map-append (tree_of a) found (id ∷ []))
      ∙ append_assoc (trees_of a found) (tree_of a id ∷ []) (all_parts a rest)
      ∙ ap (λ ds. trees_of a found ++ (ds ++ all_parts a rest)) (sym h) ∙ w.same;
}

pub one_smaller : (a : Arena) (id : ℕ) (rest : List ℕ) → all_sizes a rest < all_sizes a (id ∷ rest)
one_smaller a id rest = omega (arith, some_size (tree_of a id))

-- ---- cut into the first parts and the others

-- some parts in front of the first ones
abbrev pub behind : List Diagram → List Diagram × List Diagram → List Diagram × List Diagram
behind ds c = (ds ++ c.0, c.1)

-- The first i parts are among the first ones, and this many outputs are still wanted.
abbrev pub CutSo : Arena → List ℕ → (i wanted : ℕ) → Type 0
CutSo a ids i wanted = cut 2 (trees_of a ids) ≡ behind (trees_of a (take i ids)) (cut wanted (trees_of a (drop i ids)))
