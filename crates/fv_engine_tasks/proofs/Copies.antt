-- Numbers that are written into frames, one at a time.
use Rattle.std.proofs.Common.{◌≡◌, inl, inr, ℕ, ◌+◌, ◌-◌, ◌*◌, ◌/◌, ◌%◌, ◌<◌, List, get_or, set, ℤ, pos, sym, subst, ap, ◌∙◌, arith}
use Rattle.std.proofs.lemmas.Bool.{cases_lt}
use Rattle.std.proofs.lemmas.Nat.{div-mul-add, mod-mul-add}
use Rattle.std.proofs.lemmas.List.{get_or-set_other}

-- a place stands in one frame only
pub at_another : (w s j t p : ℕ) → j < w → p < w → (j ≡ p → s ≡ t → ⊥) → s * w + j ≡ t * w + p → ⊥
at_another w s j t p inside there apart same =
    apart (sym (mod-mul-add s w j inside) ∙ ap (λ x. x % w) same ∙ mod-mul-add t w p there)
    (sym (div-mul-add s w j inside) ∙ ap (λ x. x / w) same ∙ div-mul-add t w p there)

pub others_stay : (w s j t p : ℕ) (xs : List ℤ) (x : ℤ) → j < w → p < w → (j ≡ p → s ≡ t → ⊥)
    → get_or (set xs (t * w + p) x) (s * w + j) (pos 0) ≡ get_or xs (s * w + j) (pos 0)
others_stay w s j t p xs x inside there apart =
    get_or-set_other xs (t * w + p) (s * w + j) x (pos 0) (at_another w s j t p inside there apart)

-- the frames before `from` stand, and those of a strip are written after them
pub strip_more : (from count w p : ℕ) (old new : List ℤ) (f : ℕ → ℤ)
    → ((k : ℕ) → k < count → get_or new ((from + k) * w + p) (pos 0) ≡ f (from + k))
    → ((t : ℕ) → t < from → get_or new (t * w + p) (pos 0) ≡ get_or old (t * w + p) (pos 0))
    → ((t : ℕ) → t < from → get_or old (t * w + p) (pos 0) ≡ f t)
    → (t : ℕ) → t < from + count → get_or new (t * w + p) (pos 0) ≡ f t
strip_more from count w p old new f now same before t l = elim (cases_lt t from) [
  | inl i ↦ same t i ∙ before t i
  | inr i ↦
      let e : from + (t - from) ≡ t = omega (arith, i) in
      subst (λ (x : ℕ). get_or new (x * w + p) (pos 0) ≡ f x) e (now (t - from) (omega (arith, i, l)))
]
