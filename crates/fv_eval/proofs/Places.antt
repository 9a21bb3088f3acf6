-- Places in lists.
use Rattle.std.proofs.Common.{◌≡◌, ℕ, zero, suc, List, [], ◌∷◌, drop, Some, None, refl, ap}
use Rattle.std.specs.Prelude.{slice_get}
use Rattle.std.proofs.lemmas.Option.{none-some}

-- the item at a place is what begins the rest from there
pub get_at_drop : {A : Type 0} (xs : List A) (i : ℕ) (y : A) (ys : List A) → drop i xs ≡ y ∷ ys → slice_get xs i ≡ Some y
get_at_drop [] zero y ys e = absurd (cc)
get_at_drop [] (suc i) y ys e = absurd (cc)
get_at_drop (x ∷ xs) zero y ys e = let h : x ≡ y = cc in ap Some h
get_at_drop (x ∷ xs) (suc i) y ys e = get_at_drop xs i y ys e

-- and the rest after it
pub drop_behind : {A : Type 0} (xs : List A) (i : ℕ) (y : A) (ys : List A) → drop i xs ≡ y ∷ ys → drop (suc i) xs ≡ ys
drop_behind [] zero y ys e = absurd (cc)
drop_behind [] (suc i) y ys e = absurd (cc)
drop_behind (x ∷ xs) zero y ys e = cc
drop_behind (x ∷ xs) (suc i) y ys e = drop_behind xs i y ys e

pub drop_at_get : {A : Type 0} (xs : List A) (i : ℕ) (y : A) → slice_get xs i ≡ Some y → drop i xs ≡ y ∷ drop (suc i) xs
drop_at_get [] i y e = absurd (none-some y e)
drop_at_get (x ∷ xs) zero y e = let h : x ≡ y = cc in ap (λ z. z ∷ xs) h
drop_at_get (x ∷ xs) (suc i) y e = drop_at_get xs i y e

pub drop_at_end : {A : Type 0} (xs : List A) (i : ℕ) → slice_get xs i ≡ None → drop i xs ≡ []
drop_at_end [] zero e = refl
drop_at_end [] (suc i) e = refl
drop_at_end (x ∷ xs) zero e = absurd (cc)
drop_at_end (x ∷ xs) (suc i) e = drop_at_end xs i e
