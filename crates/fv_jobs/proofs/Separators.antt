-- The four lines that separate jobs.
use Rattle.std.proofs.Common.{◌≡◌, ℕ, ◌+◌, ◌-◌, ◌<◌, ◌&&◌, Bool, true, false, List, [], ◌∷◌, ◌++◌, length, take, refl, sym, ap, ◌∙◌, arith}
use Rattle.std.proofs.Common.{inl, inr, ◌⊎◌, subst}
use Rattle.std.specs.Prelude.{codes, if◌then◌else◌, slice_index, ◌==◌, nat_lt}
use Rattle.std.specs.Io.BufRead.{strip_last, ends_with_byte}
use Rattle.std.proofs.lemmas.Slice.Eq.{bytes_eq-Decides}
use Rattle.fv_jobs.specs.headline.Jobs.{lines_in, is_separator}
use Rattle.fv_jobs.specs.Between.{IsEnded}
use Rattle.std.proofs.Common.{get_or, suc, lit<}
use Rattle.std.proofs.lemmas.Bool.{ltb-true, eqb-true}
use Rattle.std.proofs.lemmas.List.{take_more, take_all, get_or_push}
use Rattle.fv_base.proofs.lemmas.Lists.{length_snoc}

both_true : (b c : Bool) → (b && c) ≡ true → (b ≡ true) × (c ≡ true)
both_true true c e = (refl, e)
both_true false c e = absurd cc

last_is : (b : ℕ) (l : List ℕ) → ends_with_byte b l ≡ true → l ≡ take (length l - 1) l ++ b ∷ []
last_is b l e =
    let both = both_true (nat_lt 0 (length l)) (slice_index l (length l - 1) == b) e in
    let some = ltb-true 0 (length l) both.0 in
    let i : ℕ = length l - 1 in
    sym (ap (λ (x : ℕ). take i l ++ x ∷ []) (sym (eqb-true (slice_index l i) b both.1))
    ∙ sym (take_more l i 0 (omega arith))
    ∙ take_all (i + 1) l (omega arith))

-- a list has no such byte at its end, or it is what is left of it, and that byte
pub stripped : (b : ℕ) (l : List ℕ) → (strip_last b l ≡ l) ⊎ (l ≡ strip_last b l ++ b ∷ [])
stripped b l = go (ends_with_byte b l) refl
  where
    go : (t : Bool) → ends_with_byte b l ≡ t → ((if t then take (length l - 1) l else l) ≡ l) ⊎ (l ≡ (if t then take (length l - 1) l else l) ++ b ∷ [])
    go true e = inr (last_is b l e)
    go false e = inl refl

-- `%%`, with a byte 13 or without
abbrev Bare : List ℕ → Type 0
Bare s = (s ≡ codes "%%") ⊎ (s ≡ codes "%%\r")

bare : (l : List ℕ) → is_separator l ≡ true → Bare (strip_last 10 l)
bare l e =
    let same : strip_last 13 (strip_last 10 l) ≡ codes "%%" = (bytes_eq-Decides (strip_last 13 (strip_last 10 l)) (codes "%%")).0 e in
    elim (stripped 13 (strip_last 10 l)) as (λ _. Bare (strip_last 10 l)) [
      | inl h ↦ inl (sym h ∙ same)
      | inr h ↦ inr (h ∙ ap (λ (s : List ℕ). s ++ 13 ∷ []) same)
    ]

-- it is one line, and no byte 10 is its last
ended_line : (s rest : List ℕ) → Bare s → lines_in ((s ++ 10 ∷ []) ++ rest) ≡ (s ++ 10 ∷ []) ∷ lines_in rest
ended_line s rest (inl e) = subst (λ (s : List ℕ). lines_in ((s ++ 10 ∷ []) ++ rest) ≡ (s ++ 10 ∷ []) ∷ lines_in rest) (sym e) refl
ended_line s rest (inr e) = subst (λ (s : List ℕ). lines_in ((s ++ 10 ∷ []) ++ rest) ≡ (s ++ 10 ∷ []) ∷ lines_in rest) (sym e) refl

last_line : (s : List ℕ) → Bare s → lines_in (s ++ []) ≡ s ∷ []
last_line s (inl e) = subst (λ (s : List ℕ). lines_in (s ++ []) ≡ s ∷ []) (sym e) refl
last_line s (inr e) = subst (λ (s : List ℕ). lines_in (s ++ []) ≡ s ∷ []) (sym e) refl

ended_last : (s front : List ℕ) (n : ℕ) → s ≡ front ++ 10 ∷ [] → length s ≡ suc n → get_or s n 0 ≡ 10
ended_last s front n e l =
    ap (λ (xs : List ℕ). get_or xs n 0) e ∙ get_or_push front 10 0 n (omega (arith, ap length e, length_snoc front 10))

above_feed : (n : ℕ) → 10 < n → n ≡ 10 → ⊥
above_feed n h e = omega arith

not_ended : (s : List ℕ) → Bare s → IsEnded s → ⊥
not_ended s (inl e) h = above_feed 37 (lit< tt) (ended_last (codes "%%") h.front 1 (sym e ∙ h.is) refl)
not_ended s (inr e) h = above_feed 13 (lit< tt) (ended_last (codes "%%\r") h.front 2 (sym e ∙ h.is) refl)

-- A separating line with what follows it: where it has no byte 10, that is nothing.
pub separator_line : (l rest : List ℕ) → is_separator l ≡ true → IsEnded l ⊎ (rest ≡ []) → lines_in (l ++ rest) ≡ l ∷ lines_in rest
separator_line l rest e h =
    let s = strip_last 10 l in
    let b = bare l e in
    elim (stripped 10 l) as (λ _. lines_in (l ++ rest) ≡ l ∷ lines_in rest) [
      | inr f ↦ subst (λ (l : List ℕ). lines_in (l ++ rest) ≡ l ∷ lines_in rest) (sym f) (ended_line s rest b)
      | inl f ↦ elim h as (λ _. lines_in (l ++ rest) ≡ l ∷ lines_in rest) [
        | inl ended ↦ absurd (not_ended l (subst Bare f b) ended)
        | inr none ↦ subst (λ (rest : List ℕ). lines_in (l ++ rest) ≡ l ∷ lines_in rest) (sym none) (last_line l (subst Bare f b))
      ]
    ]
