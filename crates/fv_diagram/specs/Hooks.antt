-- What each call of the signals does.
use Rattle.std.specs.Prelude.{ℕ, Bool, List, [], ◌∷◌, ℤ, get_or}
use Rattle.fv_num.specs.headline.Words.{inputs_of}
use Rattle.fv_diagram.specs.declared.signals.Leaf.{Leaf}
use Rattle.fv_diagram.specs.declared.signals.Leaf.TheVariants as leaf

-- What each call does to the signals S, whose wires are W.
pub record Hooks (W S : Type 0) : Type 0 where
  pub leaf : Leaf → List W → S → W × S
  pub opened : ℕ → S → List W × S
  pub closed : List W → S → List W × S
  -- a wire that counts from 0 on, modulo a number
  pub counted : ℕ → S → W × S
  -- a table of these numbers, which is written or read alone
  pub tabled : Bool → List ℤ → List W → S → W × S

-- how many wires a leaf takes
abbrev pub takes : Leaf → ℕ
takes (leaf.Number n) = 0
takes (leaf.Control k) = 0
takes leaf.Mem = 1
takes leaf.Prefix = 2
takes leaf.Delay = 2
takes (leaf.Point op) = inputs_of op

-- each of the old wires is a wire
abbrev pub Keeps : {W : Type 0} → (old new : W → Type 0) → Type 0
Keeps {W} old new = (w : W) → old w → new w

-- the four operands of an operation on these wires, of which the first stands for those that are missing
abbrev pub padded : List ℕ → List ℕ
padded ws =
    let first = get_or ws 0 0 in
    first ∷ get_or ws 1 first ∷ get_or ws 2 first ∷ get_or ws 3 first ∷ []
