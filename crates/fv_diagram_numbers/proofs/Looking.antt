-- The turns of the walk that looks for what a table's numbers may not depend on.
use Rattle.std.proofs.Common.{◌≡◌, ℕ, ◌+◌, ◌<◌, Bool, true, false, ◌&&◌, ◌||◌, List, [], ◌∷◌, ◌++◌, reverse, refl, sym, ap, ◌∙◌, arith}
use Rattle.std.specs.List.{list_any}
use Rattle.std.proofs.lemmas.List.{reverse-append}
use Rattle.std.proofs.lemmas.List.Folds.{list_any-append}
use Rattle.fv_diagram.specs.Arena.{Arena, tree_of}
use Rattle.fv_diagram.proofs.lemmas.Turns.{some_size}
use Rattle.fv_diagram_numbers.specs.declared.fixed.Look.{Look}
use Rattle.fv_diagram_numbers.specs.declared.fixed.Look.TheVariants as look
use Rattle.fv_diagram_numbers.specs.headline.Heads.{is_closed}
use Rattle.fv_diagram_numbers.specs.inner.Looks.{AreInside, are_closed, Turns}

-- the next piece is the last one
pub next_last : {A : Type 0} (xs ys : List A) (x : A) → xs ≡ ys ++ x ∷ [] → reverse xs ≡ x ∷ reverse ys
next_last xs ys x e = ap reverse e ∙ reverse-append ys (x ∷ [])

-- a slot is bound, in whichever order
pub any_reversed : (p : ℕ → Bool) (xs : List ℕ) → list_any p (reverse xs) ≡ list_any p xs
any_reversed p [] = refl
any_reversed p (x ∷ xs) =
    ap (list_any p) (reverse-append (x ∷ []) xs) ∙ list_any-append p (reverse xs) (x ∷ [])
    ∙ swapped (list_any p (reverse xs)) (list_any p xs) (p x) (any_reversed p xs)
  where
    swapped : (a b c : Bool) → a ≡ b → (a || (c || false)) ≡ (c || b)
    swapped true b true e = refl
    swapped true b false e = e
    swapped false b true e = refl
    swapped false b false e = e

-- a diagram without parts
pub leaf_turn : (a : Arena) (id : ℕ) (ls : List Look) (bound : List ℕ) (b : Bool) → b ≡ is_closed bound (tree_of a id)
    → AreInside a (look.At id ∷ ls) → Turns b a (look.At id ∷ ls) bound ls bound
leaf_turn a id ls bound true e h = record {
  inside = h.1;
  same = ap (λ c. c && are_closed a bound ls) e;
  smaller = let s = some_size (tree_of a id) in omega arith;
}
leaf_turn a id ls bound false e h = ap (λ c. c && are_closed a bound ls) (sym e)

-- What is known while pieces wait: that they are closed says that the whole is.
pub record Waits (a : Arena) (root : ℕ) (ls : List Look) (bound : List ℕ) : Type 0 where
  pub inside : AreInside a ls
  pub same : are_closed a bound ls ≡ is_closed [] (tree_of a root)
