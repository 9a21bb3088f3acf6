-- Each step has the number that its meaning gives, at every time.
use Rattle.std.proofs.Common.{◌≡◌, ℕ, zero, suc, ◌+◌, ◌<◌, ◌≤◌, List, [], ◌∷◌, ◌++◌, length, get_or, refl, sym, ap, ap₂, ◌∙◌, subst, arith, inl, inr}
use Rattle.std.proofs.Common.{ℤ, pos, nat_eq}
use Rattle.std.proofs.lemmas.List.{get_or_append_left, get_or_push, length_push}
use Rattle.std.proofs.lemmas.Bool.{cases_eq, eq-eqb, ne_eqb, cond-true, cond-false}
use mathlib.Core.Path.{fun_ext}
use Rattle.fv_num.specs.headline.Words.{argument}
use Rattle.fv_num.specs.headline.Frames.{Stream}
use Rattle.fv_num.specs.headline.Valuation.{Meaning, at_time, numbers, streams_before, valuation}
use Rattle.fv_num.specs.inner.Valuation.{IsCausalAt, AreCausalFrom}
use Rattle.fv_base.proofs.lemmas.Lists.{length_snoc}

pub at_now : (t : ℕ) (past : ℕ → Stream) (now : List ℤ) (w : ℕ) → at_time t past now w t ≡ argument now w
at_now t past now w = cond-true (nat_eq t t) (argument now w) (past w t) (eq-eqb t t refl)

pub at_past : (t : ℕ) (past : ℕ → Stream) (now : List ℤ) (w u : ℕ) → u < t → at_time t past now w u ≡ past w u
at_past t past now w u l = cond-false (nat_eq u t) (argument now w) (past w u) (ne_eqb u t (λ e. omega arith))

module _ {S : Type 0} (f : Meaning S) where
  pub length_numbers : (t : ℕ) (past : ℕ → Stream) (now : List ℤ) (ss : List S) → length (numbers f t past now ss) ≡ length now + length ss
  length_numbers t past now [] = omega arith
  length_numbers t past now (s ∷ ss) =
      let n = f (at_time t past now) s t in
      omega (arith, length_numbers t past (now ++ n ∷ []) ss, length_push now n)

  -- the numbers that are there stay
  numbers_keep : (t : ℕ) (past : ℕ → Stream) (now : List ℤ) (ss : List S) (w : ℕ) → w < length now → argument (numbers f t past now ss) w ≡ argument now w
  numbers_keep t past now [] w l = refl
  numbers_keep t past now (s ∷ ss) w l =
      let n = f (at_time t past now) s t in
      numbers_keep t past (now ++ n ∷ []) ss w (omega (arith, length_push now n)) ∙ get_or_append_left now (n ∷ []) (pos 0) w l

  -- step i among them has its meaning
  number_is : (t : ℕ) (past : ℕ → Stream) (now : List ℤ) (ss : List S) (i : ℕ) (s d : S) → AreCausalFrom f (length now) ss → i < length ss → get_or ss i d ≡ s →
      argument (numbers f t past now ss) (length now + i) ≡ f (at_time t past (numbers f t past now ss)) s t
  number_is t past now [] i s d h l e = absurd (omega arith)
  number_is t past now (r ∷ ss) zero s d h l e =
      let n = f (at_time t past now) r t in
      let all = numbers f t past (now ++ n ∷ []) ss in
      let stay : argument all (length now + 0) ≡ n =
      ap (argument all) (plus_zero (length now))
      ∙ numbers_keep t past (now ++ n ∷ []) ss (length now) (omega (arith, length_push now n)) ∙ get_or_push now n (pos 0) (length now) refl in
      stay ∙ h.0 (at_time t past now) (at_time t past all) t
      (λ w u m. at_past t past now w u m ∙ sym (at_past t past all w u m))
      (λ w m. at_now t past now w ∙ sym (get_or_append_left now (n ∷ []) (pos 0) w m)
      ∙ sym (numbers_keep t past (now ++ n ∷ []) ss w (omega (arith, length_push now n))) ∙ sym (at_now t past all w))
      ∙ ap (λ r. f (at_time t past all) r t) e
    where
      plus_zero : (m : ℕ) → m + 0 ≡ m
      plus_zero m = omega arith
  number_is t past now (r ∷ ss) (suc i) s d h l e =
      let n = f (at_time t past now) r t in
      let all = numbers f t past (now ++ n ∷ []) ss in
      let p : length now + suc i ≡ length (now ++ n ∷ []) + i = omega (arith, length_push now n) in
      ap (argument all) p ∙ number_is t past (now ++ n ∷ []) ss i s d (subst (λ m. AreCausalFrom f m ss) (sym (length_snoc now n)) h.1) (omega arith) e

  module _ (ss : List S) where
    pub streams_before_are : (t : ℕ) (w u : ℕ) → u < t → streams_before f ss t w u ≡ valuation f ss w u
    streams_before_are zero w u l = absurd (omega arith)
    streams_before_are (suc t) w u l = elim (cases_eq u t) [
      | inl e ↦ subst (λ m. at_time t (streams_before f ss t) (numbers f t (streams_before f ss t) [] ss) w m ≡ valuation f ss w m) (sym e)
          (at_now t (streams_before f ss t) (numbers f t (streams_before f ss t) [] ss) w)
      | inr n ↦ at_past t (streams_before f ss t) (numbers f t (streams_before f ss t) [] ss) w u (omega arith) ∙ streams_before_are t w u (omega arith)
    ]

    -- step i has the stream that its meaning gives
    pub valuation_is : AreCausalFrom f 0 ss → (i : ℕ) (s d : S) → i < length ss → get_or ss i d ≡ s → IsCausalAt f i s → (t : ℕ)
        → valuation f ss i t ≡ f (valuation f ss) s t
    valuation_is h i s d l e g t =
        let past = streams_before f ss t in
        let all = numbers f t past [] ss in
        ap (argument all) (zero_plus i) ∙ number_is t past [] ss i s d h l e
        ∙ g (at_time t past all) (valuation f ss) t (λ w u m. at_past t past all w u m ∙ streams_before_are t w u m) (λ w m. at_now t past all w)
      where
        zero_plus : (m : ℕ) → m ≡ 0 + m
        zero_plus m = omega arith

-- ---- two meanings that agree before a time

module _ {S : Type 0} (f g : Meaning S) where
  numbers_same : (t : ℕ) (past : ℕ → Stream) (now : List ℤ) (ss : List S) → ((v : ℕ → Stream) (s : S) → f v s t ≡ g v s t)
      → numbers f t past now ss ≡ numbers g t past now ss
  numbers_same t past now [] h = refl
  numbers_same t past now (s ∷ ss) h =
      numbers_same t past (now ++ f (at_time t past now) s t ∷ []) ss h
      ∙ ap (λ z. numbers g t past (now ++ z ∷ []) ss) (h (at_time t past now) s)

  module _ (ss : List S) (n : ℕ) (h : (v : ℕ → Stream) (s : S) (t : ℕ) → t < n → f v s t ≡ g v s t) where
    streams_before_same : (t : ℕ) → t ≤ n → streams_before f ss t ≡ streams_before g ss t
    streams_before_same zero l = fun_ext (λ w. fun_ext (λ u. refl))
    streams_before_same (suc t) l =
        let p = streams_before_same t (omega arith) in
        let q : numbers f t (streams_before f ss t) [] ss ≡ numbers g t (streams_before g ss t) [] ss =
        numbers_same t (streams_before f ss t) [] ss (λ v s. h v s t (omega arith)) ∙ ap (λ past. numbers g t past [] ss) p in
        fun_ext (λ w. fun_ext (λ u. ap₂ (λ past now. at_time t past now w u) p q))

    pub valuation_same : (w t : ℕ) → t < n → valuation f ss w t ≡ valuation g ss w t
    valuation_same w t l =
        ap (λ now. argument now w)
        (numbers_same t (streams_before f ss t) [] ss (λ v s. h v s t l) ∙ ap (λ past. numbers g t past [] ss) (streams_before_same t (omega arith)))
