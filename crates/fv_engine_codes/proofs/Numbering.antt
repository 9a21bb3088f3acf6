-- One lane more gets its number.
use Rattle.std.proofs.Common.{◌≡◌, ℕ, zero, suc, ◌+◌, ◌<◌, List, [], ◌∷◌, ◌++◌, length}
use Rattle.std.proofs.Common.{take, drop, set, get_or, sym, ap, ◌∙◌, subst, arith, inl, inr}
use Rattle.std.specs.Prelude.{slice_index, ◌==◌}
use Rattle.std.proofs.lemmas.Bool.{cases_lt}
use Rattle.std.proofs.lemmas.List.{append_assoc, length-append, get_or_append_left, length-take-le, get_or-set_other, get_or-set_same}
use Rattle.std.proofs.Math.Seq.{take-suc, get_or-append_seam}
use Rattle.fv_outside.specs.headline.Tasks.{bit}
use Rattle.fv_outside.specs.Tasks.{times}
use Rattle.fv_graph.proofs.lemmas.Counts.{bit_same}
use Rattle.fv_graph.proofs.lemmas.ReadsLemmas.{stands}
use Rattle.fv_engine_codes.specs.inner.Numbered.{AreNumbered, AreOnce}

pub times_append : (x : ℕ) (xs ys : List ℕ) → times x (xs ++ ys) ≡ times x xs + times x ys
times_append x [] ys = omega arith
times_append x (y ∷ xs) ys = let r = times_append x xs ys in omega arith

times_split : (x : ℕ) (xs : List ℕ) (k : ℕ) → k < length xs → times x xs ≡ times x (take k xs) + bit (get_or xs k 0 == x) + times x (drop (suc k) xs)
times_split x [] k l = absurd (omega arith)
times_split x (y ∷ ys) zero l = omega arith
times_split x (y ∷ ys) (suc k) l = let r = times_split x ys k (omega arith) in omega arith

-- a lane that is to get its number next has none yet
fresh : (before lanes : List ℕ) (k x : ℕ) → k < length lanes → get_or lanes k 0 ≡ x → AreOnce (before ++ lanes) → times x (before ++ take k lanes) ≡ 0
fresh before lanes k x l e once =
    let a = times_append x before lanes in
    let b = times_append x before (take k lanes) in
    let c = times_split x lanes k l in
    let d = bit_same (get_or lanes k 0) x e in
    let o = once x in omega arith

pub number_more : (places before lanes : List ℕ) (k x n : ℕ) → k < length lanes → get_or lanes k 0 ≡ x → x < length places → n ≡ length before + k
    → AreOnce (before ++ lanes) → AreNumbered places (before ++ take k lanes) → AreNumbered (set places x n) (before ++ take (suc k) lanes)
number_more places before lanes k x n l e there is once old =
    let front : List ℕ = before ++ take k lanes in
    let long : length front ≡ length before + k = omega (arith, length-append before (take k lanes), length-take-le k lanes (omega arith)) in
    let whole : before ++ take (suc k) lanes ≡ front ++ x ∷ [] =
    ap (λ (ys : List ℕ). before ++ ys) (take-suc lanes k 0 l ∙ ap (λ (y : ℕ). take k lanes ++ y ∷ []) e)
    ∙ sym (append_assoc before (take k lanes) (x ∷ [])) in
    subst (AreNumbered (set places x n)) (sym whole) (λ i m. elim (cases_lt i (length front)) [
      | inl low ↦
          let at : slice_index (front ++ x ∷ []) i ≡ slice_index front i = get_or_append_left front (x ∷ []) 0 i low in
          let apart : slice_index front i ≡ x → ⊥ = λ q. let s = stands front x i 0 low q in let z = fresh before lanes k x l e once in omega arith in
          ap (slice_index (set places x n)) at ∙ get_or-set_other places x (slice_index front i) n 0 apart ∙ old i low
      | inr high ↦
          let z : i ≡ length front = omega (arith, m, high, length-append front (x ∷ [])) in
          let at : slice_index (front ++ x ∷ []) i ≡ x = ap (slice_index (front ++ x ∷ [])) z ∙ get_or-append_seam front x [] 0 in
          ap (slice_index (set places x n)) at ∙ get_or-set_same places x n 0 there ∙ is ∙ sym long ∙ sym z
    ])
