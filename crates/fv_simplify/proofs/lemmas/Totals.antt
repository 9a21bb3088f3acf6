-- Sums over numbers, and over the numbers that are owned.
use Rattle.std.proofs.Common.{◌≡◌, ℕ, zero, suc, ◌+◌, ◌<◌, ◌≤◌, refl, sym, ap, ◌∙◌, subst, arith, inl, inr, true, false, Bool, if◌then◌else◌, nat_eq, ◌-◌}
use Rattle.std.specs.List.{sum}
use Rattle.std.proofs.lemmas.List.Sums.{sum_by_push}
use Rattle.std.proofs.lemmas.Bool.{cases_eq, eq-eqb, eqb-true}
use Rattle.fv_num.specs.headline.Frames.{table}

pub differ : (a b : ℕ) → (a ≡ b → ⊥) → nat_eq a b ≡ false
differ a b ne = go (nat_eq a b) refl
  where
    go : (d : Bool) → nat_eq a b ≡ d → nat_eq a b ≡ false
    go true e = absurd (ne (eqb-true a b e))
    go false e = e

abbrev pub total : ℕ → (ℕ → ℕ) → ℕ
total zero f = 0
total (suc n) f = total n f + f n

pub total_is : (n : ℕ) (f : ℕ → ℕ) → sum (table n f) ≡ total n f
total_is zero f = refl
total_is (suc n) f = sum_by_push (λ k. k) (table n f) (f n) ∙ ap (λ k. k + f n) (total_is n f)

pub total_least : (n : ℕ) (f h : ℕ → ℕ) → ((i : ℕ) → i < n → f i ≤ h i) → total n f ≤ total n h
total_least zero f h a = omega arith
total_least (suc n) f h a = omega (arith, total_least n f h (λ i l. a i (omega arith)), a n (omega arith))

total_both : (n : ℕ) (f h : ℕ → ℕ) → total n (λ i. f i + h i) ≡ total n f + total n h
total_both zero f h = omega arith
total_both (suc n) f h = omega (arith, total_both n f h)

total_none : (n : ℕ) → total n (λ i. 0) ≡ 0
total_none zero = refl
total_none (suc n) = omega (arith, total_none n)

-- the number v where o is S
abbrev pub picked : (o S v : ℕ) → ℕ
picked o S v = if nat_eq o S then v else 0

pub picked_same : (o S v : ℕ) → o ≡ S → picked o S v ≡ v
picked_same o S v e = ap (λ b. if b then v else 0) (eq-eqb o S e)

picked_other : (o S v : ℕ) → (o ≡ S → ⊥) → picked o S v ≡ 0
picked_other o S v ne = ap (λ b. if b then v else 0) (differ o S ne)

-- it is counted once at most
picked_once : (m o v : ℕ) → (total m (λ S. picked o S v) ≤ v) × (m ≤ o → total m (λ S. picked o S v) ≡ 0)
picked_once zero o v = (omega arith, λ l. refl)
picked_once (suc m) o v = elim (cases_eq o m) [
  | inl e ↦ let q = (picked_once m o v).1 (omega (arith, e)) in (omega (arith, q, picked_same o m v e), λ l. absurd (omega (arith, e, l)))
  | inr ne ↦ let q = picked_once m o v in let r = q.0 in let z = picked_other o m v ne in
      (omega (arith, r, z), λ l. let w = q.1 (omega (arith, l)) in omega (arith, w, z))
]

module _ (owner r : ℕ → ℕ) where
  -- the numbers before n that S owns, in one sum
  abbrev pub owned : (S n : ℕ) → ℕ
  owned S n = total n (λ s. picked (owner s) S (r s))

  pub owned_all : (m n : ℕ) → total m (λ S. owned S n) ≤ total n r
  owned_all m zero = omega (arith, total_none m)
  owned_all m (suc n) = let a = (picked_once m (owner n) (r n)).0 in
      omega (arith, total_both m (λ S. owned S n) (λ S. picked (owner n) S (r n)), owned_all m n, a)

  pub owned_more : (S n k : ℕ) → owned S n ≤ owned S (n + k)
  owned_more S n zero = let e : n + 0 ≡ n = omega arith in subst (λ j. owned S n ≤ owned S j) (sym e) (omega arith)
  owned_more S n (suc k) = let e : n + suc k ≡ suc (n + k) = omega arith in subst (λ j. owned S n ≤ owned S j) (sym e) (omega (arith, owned_more S n k))

  pub owned_later : (S n m : ℕ) → n ≤ m → owned S n ≤ owned S m
  owned_later S n m l = let e : n + (m - n) ≡ m = omega (arith, l) in subst (λ j. owned S n ≤ owned S j) e (owned_more S n (m - n))

  -- one that it owns, after the earlier ones
  pub owned_with : (S n m : ℕ) → n < m → owner n ≡ S → owned S n + r n ≤ owned S m
  owned_with S n m l e = omega (arith, owned_later S (suc n) m (omega (arith, l)), picked_same (owner n) S (r n) e)
