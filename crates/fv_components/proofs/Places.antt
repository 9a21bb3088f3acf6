-- Items of lists that were changed at one place or at the end.
use Rattle.std.proofs.Common.{◌≡◌, ◌≢◌, inl, inr, ℕ, ◌-◌, ◌<◌, ◌≤◌, List, [], ◌∷◌, ◌++◌, length, get_or, set, refl, sym, subst, arith}
use Rattle.std.proofs.lemmas.List.{length_push, length-append, get_or-set_same, get_or-set_other, get_or_append_left, get_or_push, get_or-append_right}
use Rattle.std.proofs.lemmas.Bool.{cases_eq, cases_lt}

-- what stands at a place after a write
pub data AtSet {A : Type 0} (xs : List A) (w : ℕ) (x : A) (d : A) (s : ℕ) : Type 0 where
  Same : s ≡ w → get_or (set xs w x) s d ≡ x → AtSet xs w x d s
  Other : s ≢ w → get_or (set xs w x) s d ≡ get_or xs s d → AtSet xs w x d s

pub at_set : {A : Type 0} (xs : List A) (w : ℕ) (x d : A) (s : ℕ) → w < length xs → AtSet xs w x d s
at_set xs w x d s l = elim (cases_eq s w) [
  | inl e ↦ Same e (subst (λ n. get_or (set xs w x) n d ≡ x) (sym e) (get_or-set_same xs w x d l))
  | inr n ↦ Other n (get_or-set_other xs w s x d n)
]

-- what stands at a place of a list with one item more
pub data AtPush {A : Type 0} (xs : List A) (x d : A) (i : ℕ) : Type 0 where
  Older : i < length xs → get_or (xs ++ x ∷ []) i d ≡ get_or xs i d → AtPush xs x d i
  Last : i ≡ length xs → get_or (xs ++ x ∷ []) i d ≡ x → AtPush xs x d i

pub at_push : {A : Type 0} (xs : List A) (x d : A) (i : ℕ) → i < length (xs ++ x ∷ []) → AtPush xs x d i
at_push xs x d i l = elim (cases_lt i (length xs)) [
  | inl h ↦ Older h (get_or_append_left xs (x ∷ []) d i h)
  | inr h ↦ let e : i ≡ length xs = omega (arith, length_push xs x) in Last e (get_or_push xs x d i (sym e))
]

-- what stands at a place of two lists, one after the other
pub data AtAppend {A : Type 0} (xs ys : List A) (d : A) (i : ℕ) : Type 0 where
  Former : i < length xs → get_or (xs ++ ys) i d ≡ get_or xs i d → AtAppend xs ys d i
  Latter : length xs ≤ i → i - length xs < length ys → get_or (xs ++ ys) i d ≡ get_or ys (i - length xs) d → AtAppend xs ys d i

pub at_append : {A : Type 0} (xs ys : List A) (d : A) (i : ℕ) → i < length (xs ++ ys) → AtAppend xs ys d i
at_append xs ys d i l = elim (cases_lt i (length xs)) [
  | inl h ↦ Former h (get_or_append_left xs ys d i h)
  | inr h ↦ Latter (omega arith) (omega (arith, length-append xs ys)) (get_or-append_right xs ys (length xs) i d refl (omega arith))
]
