-- The value of each signal is what its node gives.
use Rattle.std.proofs.Common.{◌≡◌, ℕ, zero, suc, ◌+◌, ◌-◌, ◌<◌, ◌≤◌, List, [], ◌∷◌, length, take, get_or, map, refl, ap, ap₂, ◌∙◌, subst, arith, inl, inr}
use Rattle.std.proofs.Common.{All, ℤ, pos, negsuc, true, false, if◌then◌else◌, nat_le}
use Rattle.std.proofs.lemmas.List.Elements.{All-head, All-tail}
use Rattle.std.proofs.lemmas.Bool.{cases_lt}
use Rattle.std.proofs.lemmas.Int.{ints, clamps}
use Rattle.fv_num.specs.headline.Words.{apply_of, inputs_of}
use Rattle.fv_num.specs.headline.Frames.{Frame, Stream, delayed, back}
use Rattle.fv_num.specs.inner.Valuation.{IsCausalAt, AreCausalFrom}
use Rattle.fv_num.specs.headline.Tables.{place, read_at, written_at}
use Rattle.fv_num.proofs.lemmas.Tables.{last_written_same}
use Rattle.fv_num.proofs.lemmas.Valued.{valuation_is}
use Rattle.fv_signal.specs.declared.signal.Signal.{Signal}
use Rattle.fv_signal.specs.declared.signal.Signal.TheVariants.{Input, Const, Control, Point, Delay, Back, Member, Read, Write}
use Rattle.fv_signal.specs.headline.Value.{Graph, definition, table_of, back_by, signal_at, OperandsBelow}
use Rattle.fv_signal.specs.Value.{ValuesAreGiven, DelaysAreClamped}

pub map_same : (i : ℕ) (f g : ℕ → ℤ) (ws : List ℕ) → All (λ w. w < i) ws → ((w : ℕ) → w < i → f w ≡ g w) → map f ws ≡ map g ws
map_same i f g [] h e = refl
map_same i f g (w ∷ ws) h e = ap₂ (λ x y. x ∷ y) (e w (All-head (λ w. w < i) w ws h)) (map_same i f g ws (All-tail (λ w. w < i) w ws h) e)

pub delayed_same : (x y : Stream) (t : ℕ) → ((u : ℕ) → u < t → x u ≡ y u) → delayed x t ≡ delayed y t
delayed_same x y zero h = refl
delayed_same x y (suc t) h = h t (omega arith)

pub back_same : (x y : Stream) (t : ℕ) (d : ℤ) → ((i : ℕ) → i ≤ t → x i ≡ y i) → back x t d ≡ back y t d
back_same x y t (pos d) h = elim (nat_le d t) as (λ b. (if b then x (t - d) else pos 0) ≡ (if b then y (t - d) else pos 0))
    [ true ↦ h (t - d) (omega arith) | false ↦ refl ]
back_same x y t (negsuc d) h = refl

-- how far back a number says, by the least and the greatest
pub delays_are_clamped : DelaysAreClamped
delays_are_clamped greatest (pos d) = grind (arith, ints, clamps)
delays_are_clamped greatest (negsuc d) = grind (arith, ints, clamps)

-- streams that are the same before a time and at it
pub upto_now : (x y : Stream) (t : ℕ) → ((u : ℕ) → u < t → x u ≡ y u) → x t ≡ y t → (u : ℕ) → u ≤ t → x u ≡ y u
upto_now x y t h e u l = elim (cases_lt u t) [ inl m ↦ h u m | inr n ↦ let z : t ≡ u = omega arith in subst (λ k. x k ≡ y k) z e ]

pub written_same : (T : List ℤ) (w w' x x' r r' : Stream) (t : ℕ) → ((u : ℕ) → u ≤ t → w u ≡ w' u) → ((u : ℕ) → u ≤ t → x u ≡ x' u) → r t ≡ r' t
    → written_at T w x t (r t) ≡ written_at T w' x' t (r' t)
written_same T w w' x x' r r' t h k e = ap (written_at T w x t) e ∙ last_written_same T w w' x x' (place (length T) (r' t)) t h k

module _ (g : Graph) (X : List Frame) (c : ℕ → Stream) where
  signal_causal : (i : ℕ) (s : Signal) → OperandsBelow g i s → IsCausalAt (signal_at g X c) i s
  signal_causal i (Input k) h v v' t p q = refl
  signal_causal i (Const n) h v v' t p q = refl
  signal_causal i (Control k) h v v' t p q = refl
  signal_causal i (Point op args) h v v' t p q = ap (λ x. apply_of op (take (inputs_of op) x)) (map_same i (λ w. v w t) (λ w. v' w t) args h q)
  signal_causal i (Delay x d max) h v v' t p q =
      back_same (v x) (v' x) t (pos (back_by max (v d t)))
      (λ u l. elim (cases_lt u t) [ inl m ↦ p x u m | inr n ↦ let e : t ≡ u = omega arith in subst (λ k. v x k ≡ v' x k) e (q x h.0) ])
      ∙ ap (λ k. back (v' x) t (pos (back_by max k))) (q d h.1)
  signal_causal i (Back group k) h v v' t p q = delayed_same (v (definition g group k)) (v' (definition g group k)) t (λ u l. p (definition g group k) u l)
  signal_causal i (Member group k) h v v' t p q = q (definition g group k) h
  signal_causal i (Read table r) h v v' t p q = ap (read_at (table_of g table)) (q r h)
  signal_causal i (Write table w x r) h v v' t p q =
      written_same (table_of g table) (v w) (v' w) (v x) (v' x) (v r) (v' r) t (upto_now (v w) (v' w) t (p w) (q w h.0))
      (upto_now (v x) (v' x) t (p x) (q x h.1)) (q r h.2)

  signals_causal : (i : ℕ) (ss : List Signal) → ((j : ℕ) (d : Signal) → j < length ss → OperandsBelow g (i + j) (get_or ss j d))
      → AreCausalFrom (signal_at g X c) i ss
  signals_causal i [] h = tt
  signals_causal i (s ∷ ss) h =
      let z : i + 0 ≡ i = omega arith in (
        signal_causal i s (subst (λ n. OperandsBelow g n s) z (h 0 s (omega arith))),
        signals_causal (suc i) ss (λ j d l. let e : i + suc j ≡ suc i + j = omega arith in
            subst (λ n. OperandsBelow g n (get_or ss j d)) e (h (suc j) d (omega arith))),
      )

pub values_are_given : (g : Graph) → ValuesAreGiven g
values_are_given g h X c s d t l =
    valuation_is (signal_at g X c) g.signals (signals_causal g X c 0 g.signals
    (λ j e m. let z : j ≡ 0 + j = omega arith in subst (λ n. OperandsBelow g n (get_or g.signals j e)) z (h j e m)))
    s (get_or g.signals s d) d l refl (signal_causal g X c s (get_or g.signals s d) (h s d l)) t
