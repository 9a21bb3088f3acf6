-- Calls at the first place and at the others are calls at each place.
use Rattle.std.proofs.Common.{◌≡◌, ℕ, zero, suc, ◌+◌, ◌<◌, List, [], ◌∷◌, ◌++◌, length, get_or, set, refl, sym, subst, arith}
use Rattle.fv_steal.specs.inner.Places.{AreReady, HaveChanged}

-- a place after the first
place_more : (P : ℕ → Type 0) (from k : ℕ) → P (from + suc k) → P (from + 1 + k)
place_more P from k p = subst P (omega arith) p

place_less : (P : ℕ → Type 0) (from k : ℕ) → P (from + 1 + k) → P (from + suc k)
place_less P from k p = subst P (omega arith) p

module _ {X : Type 0} (P : ℕ → X → Type 0) (from : ℕ) where
  first_alone : (x : X) (ys : List X) → AreReady P from (x ∷ ys) → (k : ℕ) (d : X) → k < 1 → P (from + k) (get_or (x ∷ []) k d)
  first_alone x ys r zero d l = r.each 0 d (omega arith)
  first_alone x ys r (suc k) d l = absurd (omega arith)

  ready_first : (x : X) (ys : List X) → AreReady P from (x ∷ ys) → AreReady P from (x ∷ []) × AreReady P (from + 1) ys
  ready_first x ys r = let room = r.room in (
    record { room = omega arith; each = first_alone x ys r },
    record { room = omega arith; each = λ k d l. place_more (λ i. P i (get_or ys k d)) from k (r.each (suc k) d (omega arith)) },
  )

  -- a list that is cut after its first place
  pub ready_cut : (all xs ys : List X) → all ≡ xs ++ ys → length xs ≡ 1 → AreReady P from all → AreReady P from xs × AreReady P (from + 1) ys
  ready_cut all [] ys e l r = absurd (omega arith)
  ready_cut all (x ∷ []) ys e l r = ready_first x ys (subst (AreReady P from) e r)
  ready_cut all (x ∷ y ∷ xs) ys e l r = absurd (omega arith)

module _ {X : Type 0} (R : ℕ → X → X → Type 0) (from : ℕ) where
  alone_at : (x y : X) → R from x y → (k : ℕ) (d : X) → k < 1 → R (from + k) (get_or (x ∷ []) k d) (get_or (y ∷ []) k d)
  alone_at x y r zero d l = subst (λ i. R i x y) (omega arith) r
  alone_at x y r (suc k) d l = absurd (omega arith)

  -- a list of one place
  pub changed_alone : (xs : List X) (x y : X) → length xs ≡ 1 → R from (get_or xs 0 x) y → HaveChanged R from xs (set xs 0 y)
  changed_alone [] x y l r = absurd (omega arith)
  changed_alone (a ∷ b ∷ xs) x y l r = absurd (omega arith)
  changed_alone (a ∷ []) x y l r = record { long = refl; each = alone_at a y r }

  changed_at : (x x' : X) (ys ys' : List X) → HaveChanged R from (x ∷ []) (x' ∷ []) → HaveChanged R (from + 1) ys ys'
      → (k : ℕ) (d : X) → k < suc (length ys) → R (from + k) (get_or (x ∷ ys) k d) (get_or (x' ∷ ys') k d)
  changed_at x x' ys ys' a b zero d l = a.each 0 d (omega arith)
  changed_at x x' ys ys' a b (suc k) d l = place_less (λ i. R i (get_or ys k d) (get_or ys' k d)) from k (b.each k d (omega arith))

  changed_first : (x x' : X) (ys ys' : List X) → HaveChanged R from (x ∷ []) (x' ∷ []) → HaveChanged R (from + 1) ys ys'
      → HaveChanged R from (x ∷ ys) (x' ∷ ys')
  changed_first x x' ys ys' a b = let long = b.long in record { long = omega arith; each = changed_at x x' ys ys' a b }

  changed_one : (xs xs' ys ys' : List X) → length xs ≡ 1 → HaveChanged R from xs xs' → HaveChanged R (from + 1) ys ys'
      → HaveChanged R from (xs ++ ys) (xs' ++ ys')
  changed_one [] xs' ys ys' l a b = absurd (omega arith)
  changed_one (x ∷ y ∷ xs) xs' ys ys' l a b = absurd (omega arith)
  changed_one (x ∷ []) [] ys ys' l a b = let long = a.long in absurd (omega arith)
  changed_one (x ∷ []) (x' ∷ y' ∷ xs') ys ys' l a b = let long = a.long in absurd (omega arith)
  changed_one (x ∷ []) (x' ∷ []) ys ys' l a b = changed_first x x' ys ys' a b

  -- a list that was cut after its first place
  pub changed_cut : (all xs ys xs' ys' : List X) → all ≡ xs ++ ys → length xs ≡ 1 → HaveChanged R from xs xs' → HaveChanged R (from + 1) ys ys'
      → HaveChanged R from all (xs' ++ ys')
  changed_cut all xs ys xs' ys' e l a b = subst (λ zs. HaveChanged R from zs (xs' ++ ys')) (sym e) (changed_one xs xs' ys ys' l a b)
