-- What is known where a diagram is fed.
use Rattle.std.proofs.Common.{◌≡◌, ℕ, ◌≤◌, Bool, true, false, List, [], ◌∷◌, length, refl, sym, subst, ◌∙◌, arith}
use Rattle.std.specs.Prelude.{nat_lt, ◌==◌}
use Rattle.std.proofs.lemmas.Bool.{ltb-true}
use Rattle.fv_diagram.specs.Arena.{Arena}
use Rattle.fv_eval_drawing.specs.Makes.{trees_of}

not_true : (b : Bool) → (b ≡ true → ⊥) → b ≡ false
not_true true n = absurd (n refl)
not_true false n = refl

-- a list that is not empty
pub not_empty : (b : Bool) (n m : ℕ) → b ≡ (n == 0) → b ≡ false → n ≡ m → m ≡ 0 → ⊥
not_empty b n m e f g z = let r : (0 == 0) ≡ false = subst (λ k. (k == 0) ≡ false) (g ∙ z) (sym e ∙ f) in cc

-- At most n inputs were given: n is not less than their number k.
pub not_less : (n k i j : ℕ) → i ≡ n → j ≡ i → k ≤ j → nat_lt n k ≡ false
not_less n k i j e f h = not_true (nat_lt n k) (λ t. let l = ltb-true n k t in absurd (omega (arith, l, e, f, h)))

pub none_of : (a : Arena) (is : List ℕ) → (length is ≡ 0 → ⊥) → trees_of a is ≡ [] → ⊥
none_of a [] h e = h refl
none_of a (i ∷ is) h e = absurd (cc)
