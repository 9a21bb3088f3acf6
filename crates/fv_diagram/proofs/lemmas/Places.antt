-- Lists by their places.
use Rattle.std.proofs.Common.{◌≡◌, ℕ, zero, suc, ◌+◌, ◌<◌, ◌≤◌, List, [], ◌∷◌, ◌++◌, length, get_or, take, map, refl, sym, ap, ◌∙◌, arith, ℤ}
use Rattle.std.proofs.Common.{replicate, inl, inr}
use Rattle.std.proofs.lemmas.List.{get_or_append_left, length-append, replicate_more, take_all, take-append-le}
use Rattle.std.proofs.lemmas.Bool.{cases_lt}
use Rattle.fv_base.specs.headline.Lists.{IsPrefixOf}
use Rattle.fv_base.proofs.lemmas.Lists.{length_table, map_table, table_items}
use Rattle.fv_num.specs.headline.Frames.{Stream, table, carried}
use Rattle.fv_num.specs.headline.Words.{inputs_of}
use Rattle.fv_num.specs.declared.op.Op.{Op}
use Rattle.fv_num.specs.declared.op.Op.TheVariants as op

pub prefix_snoc : {A : Type 0} (xs : List A) (x : A) → IsPrefixOf xs (xs ++ x ∷ [])
prefix_snoc xs x = record { rest = x ∷ []; is = refl }

pub prefix_long : {A : Type 0} (xs ys : List A) → IsPrefixOf xs ys → length xs ≤ length ys
prefix_long xs ys h = omega (arith, ap length h.is, length-append xs h.rest)

pub prefix_get : {A : Type 0} (xs ys : List A) (i : ℕ) (d : A) → IsPrefixOf xs ys → i < length xs → get_or ys i d ≡ get_or xs i d
prefix_get xs ys i d h l = ap (λ zs. get_or zs i d) h.is ∙ get_or_append_left xs h.rest d i l

pub table_replicate : (n : ℕ) (z : ℤ) → table n (λ i. z) ≡ replicate n z
table_replicate zero z = refl
table_replicate (suc n) z = ap (λ xs. xs ++ z ∷ []) (table_replicate n z) ∙ replicate_more n z
    ∙ (let e : n + 1 ≡ suc n = omega arith in ap (λ k. replicate k z) e)

take_table : {A : Type 0} (n m : ℕ) (f : ℕ → A) → n ≤ m → take n (table m f) ≡ table n f
take_table n zero f l = let e : n ≡ 0 = omega arith in ap (λ k. take k []) e ∙ sym (ap (λ k. table k f) e)
take_table n (suc m) f l = elim (cases_lt m n) [
  | inl g ↦ let e : n ≡ suc m = omega arith in ap (λ k. take k (table (suc m) f)) e
      ∙ take_all (suc m) (table (suc m) f) (omega (arith, length_table (suc m) f)) ∙ sym (ap (λ k. table k f) e)
  | inr g ↦ take-append-le n (table m f) (f m ∷ []) (omega (arith, length_table m f)) ∙ take_table n m f g
]

pub carried_items : (v : ℕ → Stream) (ws : List ℕ) (t : ℕ) → carried v ws t ≡ table (length ws) (λ i. v (get_or ws i 0) t)
carried_items v ws t = ap (map (λ w. v w t)) (sym (table_items ws 0)) ∙ map_table (λ w. v w t) (length ws) (λ i. get_or ws i 0)

-- the first n wires
pub carried_first : (v : ℕ → Stream) (ws : List ℕ) (n t : ℕ) → n ≤ length ws → take n (carried v ws t) ≡ table n (λ i. v (get_or ws i 0) t)
carried_first v ws n t l = ap (take n) (carried_items v ws t) ∙ take_table n (length ws) (λ i. v (get_or ws i 0) t) l

-- an operation takes one to four operands
pub takes_some : (o : Op) → (1 ≤ inputs_of o) × (inputs_of o ≤ 4)
takes_some op.Abs = (omega arith, omega arith)
takes_some op.Select2 = (omega arith, omega arith)
takes_some op.Select3 = (omega arith, omega arith)
takes_some _ = (omega arith, omega arith)
