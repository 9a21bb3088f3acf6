-- Lists that are sorted by a number of each item.
use Rattle.std.proofs.Common.{◌≡◌, ℕ, zero, suc, ◌+◌, ◌-◌, ◌<◌, ◌≤◌, arith, Bool, true, false, cond, List, [], ◌∷◌, length, take}
use Rattle.std.proofs.Common.{drop, get_or, refl, sym, ap, subst, ◌∙◌, length-drop}
use Rattle.std.specs.Prelude.{filter, nat_eq, nat_lt, nat_le, not, ◌&&◌}
use Rattle.std.specs.List.Sorted.{IsPartitionPoint, IsStableByKey, ties}
use Rattle.std.specs.Ordering.{nat_cmp, is_lt}
use Rattle.std.specs.declared.cmp.Ordering.TheVariants.{Less, Equal, Greater}
use Rattle.std.proofs.lemmas.Bool.{eq-eqb, eqb-true, ltb-true, leb-true, ltb-false, leb-false, false≢true}
use Rattle.std.proofs.lemmas.List.Elements.{filter_agree}
use Rattle.std.proofs.lemmas.List.{get_or-drop}

-- ---- what passes a test from one place up to another, and nowhere else

record Passes {X : Type 0} (p : X → Bool) (xs : List X) (a n : ℕ) : Type 0 where
  before : (k : ℕ) (d : X) → k < a → p (get_or xs k d) ≡ false
  within : (k : ℕ) (d : X) → a ≤ k → k < a + n → p (get_or xs k d) ≡ true
  behind : (k : ℕ) (d : X) → a + n ≤ k → k < length xs → p (get_or xs k d) ≡ false
  inside : a + n ≤ length xs

-- the same after the first one
shorter : {X : Type 0} (p : X → Bool) (x : X) (xs : List X) (a n b m : ℕ) → b ≡ a - 1 → b + m ≡ a + n - 1 → Passes p (x ∷ xs) a n → Passes p xs b m
shorter p x xs a n b m e f h = record {
  before = λ k d l. h.before (suc k) d (omega (arith, l));
  within = λ k d g l. h.within (suc k) d (omega (arith, g)) (omega (arith, l));
  behind = λ k d g l. h.behind (suc k) d (omega (arith, g)) (omega (arith, l));
  inside = let i = h.inside in omega arith;
}

cut : {X : Type 0} (p : X → Bool) (xs : List X) (a n : ℕ) → Passes p xs a n → filter p xs ≡ take n (drop a xs)
cut p [] zero zero h = refl
cut p [] zero (suc n) h = let i = h.inside in absurd (omega arith)
cut p [] (suc a) n h = let i = h.inside in absurd (omega arith)
cut p (x ∷ xs) (suc a) n h =
    ap (λ c. cond c (x ∷ filter p xs) (filter p xs)) (h.before 0 x (omega arith))
    ∙ cut p xs a n (shorter p x xs (suc a) n a n (omega arith) (omega arith) h)
cut p (x ∷ xs) zero (suc n) h =
    ap (λ c. cond c (x ∷ filter p xs) (filter p xs)) (h.within 0 x (omega arith) (omega arith))
    ∙ ap (λ ys. x ∷ ys) (cut p xs zero n (shorter p x xs zero (suc n) zero n (omega arith) (omega arith) h))
cut p (x ∷ xs) zero zero h =
    ap (λ c. cond c (x ∷ filter p xs) (filter p xs)) (h.behind 0 x (omega arith) (omega arith))
    ∙ cut p xs zero zero (shorter p x xs zero zero zero zero (omega arith) (omega arith) h)

-- what stands from where keys reach this one up to where they pass it
pub keyed_from : {X : Type 0} (key : X → ℕ) (name : ℕ) (xs ys : List X) (a n : ℕ) → a ≤ length xs → ys ≡ drop a xs → n ≤ length ys
    → IsPartitionPoint (λ (d : X). nat_lt (key d) name ≡ true) (λ (d : X). nat_lt (key d) name ≡ false) xs a
    → IsPartitionPoint (λ (d : X). nat_le (key d) name ≡ true) (λ (d : X). nat_le (key d) name ≡ false) ys n
    → filter (λ d. nat_eq (key d) name) xs ≡ take n (drop a xs)
keyed_from {X} key name xs ys a n h rest l low high =
    cut (λ d. nat_eq (key d) name) xs a n (record {
      before = λ k d m. below (key (get_or xs k d)) (low.0 k d (omega arith) m);
      within = λ k d g m. at (key (get_or xs k d)) (low.1 k d g (omega (arith, m, long))) (low_enough k d g m);
      behind = λ k d g m. above (key (get_or xs k d)) (too_high k d g m);
      inside = long;
    })
  where
    length_rest : length ys ≡ length xs - a
    length_rest = ap length rest ∙ length-drop a xs

    long : a + n ≤ length xs
    long = omega (arith, length_rest, l, h)

    same : (k : ℕ) (d : X) → a ≤ k → get_or ys (k - a) d ≡ get_or xs k d
    same k d g =
        let e : a + (k - a) ≡ k = omega arith in
        ap (λ zs. get_or zs (k - a) d) rest ∙ get_or-drop a xs (k - a) d ∙ ap (λ j. get_or xs j d) e

    low_enough : (k : ℕ) (d : X) → a ≤ k → k < a + n → nat_le (key (get_or xs k d)) name ≡ true
    low_enough k d g m = subst (λ (y : X). nat_le (key y) name ≡ true) (same k d g) (high.0 (k - a) d (omega arith) (omega (arith, g, m)))

    too_high : (k : ℕ) (d : X) → a + n ≤ k → k < length xs → nat_le (key (get_or xs k d)) name ≡ false
    too_high k d g m =
        let there : k - a < length ys = omega (arith, g, m, length_rest) in
        subst (λ (y : X). nat_le (key y) name ≡ false) (same k d (omega (arith, g))) (high.1 (k - a) d (omega (arith, g)) there)

    other : (b : Bool) → (b ≡ true → ⊥) → b ≡ false
    other true n = absurd (n refl)
    other false n = refl

    below : (m : ℕ) → nat_lt m name ≡ true → nat_eq m name ≡ false
    below m e = other (nat_eq m name) (λ q. let z = eqb-true m name q in let y = ltb-true m name e in absurd (omega arith))

    at : (m : ℕ) → nat_lt m name ≡ false → nat_le m name ≡ true → nat_eq m name ≡ true
    at m e q = let z = ltb-false m name e in let y = leb-true m name q in eq-eqb m name (omega arith)

    above : (m : ℕ) → nat_le m name ≡ false → nat_eq m name ≡ false
    above m e = other (nat_eq m name) (λ q. let z = eqb-true m name q in let y = leb-false m name e in absurd (omega arith))

-- numbers that tie in the order of numbers are equal
tie : (n m : ℕ) → (not (is_lt (nat_cmp n m)) && not (is_lt (nat_cmp m n))) ≡ nat_eq m n
tie n m = go (nat_lt n m) (nat_lt m n) (nat_eq n m) (nat_eq m n) refl refl refl
  where
    go : (a b c d : Bool) → nat_lt n m ≡ a → nat_lt m n ≡ b → nat_eq m n ≡ d
        → (not (is_lt (cond a Less (cond c Equal Greater))) && not (is_lt (cond b Less (cond d Equal Greater)))) ≡ d
    go true b c true e f g = let z = eqb-true m n g in let y = ltb-true n m e in absurd (omega arith)
    go true b c false e f g = refl
    go false true true true e f g = let z = eqb-true m n g in let y = ltb-true m n f in absurd (omega arith)
    go false true false true e f g = let z = eqb-true m n g in let y = ltb-true m n f in absurd (omega arith)
    go false true true false e f g = refl
    go false true false false e f g = refl
    go false false true true e f g = refl
    go false false false true e f g = refl
    go false false c false e f g = let z = ltb-false n m e in let y = ltb-false m n f in let x = eq-eqb m n (omega arith) in absurd (false≢true (sym g ∙ x))

-- a stable sort by key keeps those with the key of this one in their order
pub same_keyed : {X : Type 0} (key : X → ℕ) (x : X) (xs ys : List X) → IsStableByKey key nat_cmp xs ys
    → filter (λ y. nat_eq (key y) (key x)) ys ≡ filter (λ y. nat_eq (key y) (key x)) xs
same_keyed {X} key x xs ys stable =
    let lt : X → X → Bool = λ d e. is_lt (nat_cmp (key d) (key e)) in
    let is : X → Bool = λ y. nat_eq (key y) (key x) in
    sym (filter_agree (ties lt x) is (λ y. tie (key x) (key y)) ys) ∙ stable x ∙ filter_agree (ties lt x) is (λ y. tie (key x) (key y)) xs
