-- A list, gone through from its first element on.
use Rattle.std.proofs.Common.{◌≡◌, ℕ, ◌+◌, ◌<◌, ◌≤◌, List, ◌∷◌, length, drop, get_or, sym, ap, ◌∙◌, arith}
use Rattle.std.proofs.lemmas.List.{drop-drop, get_or-drop, length-drop}

-- element n comes next, and then these
pub record IsNext {X : Type 0} (all : List X) (n : ℕ) (x : X) (more : List X) : Type 0 where
  pub there : n < length all
  pub is : (d : X) → get_or all n d ≡ x
  pub then : more ≡ drop (n + 1) all

pub next_of : {X : Type 0} (all left more : List X) (x : X) (n : ℕ) → left ≡ drop n all → left ≡ x ∷ more → IsNext all n x more
next_of {X} all left more x n at steps =
    let e : drop n all ≡ x ∷ more = sym at ∙ steps in
    let here : n ≡ n + 0 = omega arith in
    record {
      there = omega (arith, ap length e, length-drop n all);
      is = λ d. ap (λ (i : ℕ). get_or all i d) here ∙ sym (get_or-drop n all 0 d) ∙ ap (λ (xs : List X). get_or xs 0 d) e;
      then = ap (drop 1) (sym e) ∙ drop-drop 1 n all;
    }

-- nothing is left
pub none_left : {X : Type 0} (all left : List X) (n : ℕ) → left ≡ drop n all → n ≤ length all → length left ≡ 0 → n ≡ length all
none_left all left n at few none = omega (arith, ap length at, length-drop n all)
