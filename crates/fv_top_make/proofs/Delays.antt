-- The delays of any number of voices.
use Rattle.std.proofs.Common.{◌≡◌, ℕ, zero, suc, ◌+◌, ◌*◌, ◌≤◌, List, [], ◌∷◌, sum, pos, refl, ap, ◌∙◌, arith, drop}
use Rattle.std.proofs.lemmas.Int.{ints}
use Rattle.std.proofs.lemmas.List.Elements.{All-nil, All-cons}
use Rattle.std.proofs.lemmas.List.Sums.{sum_by-cons}
use Rattle.fv_interval.specs.Interval.{Interval, point}
use Rattle.fv_interval.specs.headline.Delays.{amounts}
use Rattle.fv_interval.specs.Delays.{IsDelay, AreDelays, AreAccepted}
use Rattle.fv_interval.specs.headline.WireSpans.{delay_spans}
use Rattle.fv_top_make.specs.Voices.{voices_from}
use Rattle.fv_lex.specs.Limits.TheConstants.{DELAY_LIMIT}

-- the delays of voice i: of its feedback, and of its `@`
abbrev pub delays_from : ℕ → ℕ → List Interval
delays_from i zero = point (pos 1) ∷ point (pos (i * 37 + 1)) ∷ []
delays_from i (suc k) = point (pos 1) ∷ point (pos (i * 37 + 1)) ∷ delays_from (suc i) k

pub delays_are : (i k : ℕ) (c e : ℕ → Interval) (I : List Interval) → delay_spans (voices_from i k) c e I ≡ delays_from i k
delays_are i zero c e I = refl
delays_are i (suc k) c e I = ap (λ ss. point (pos 1) ∷ point (pos (i * 37 + 1)) ∷ ss) (delays_are (suc i) k c e (drop 1 I))

is_delay : (n : ℕ) → n ≤ DELAY_LIMIT → IsDelay (point (pos n))
is_delay n h = record { natural = omega (arith, ints); short = omega (arith, ints) }

two_more : (i : ℕ) (ss : List Interval) → i ≤ 63 → AreDelays ss → AreDelays (point (pos 1) ∷ point (pos (i * 37 + 1)) ∷ ss)
two_more i ss h all =
    All-cons IsDelay (point (pos 1)) (point (pos (i * 37 + 1)) ∷ ss) (is_delay 1 (omega arith))
    (All-cons IsDelay (point (pos (i * 37 + 1))) ss (is_delay (i * 37 + 1) (omega arith)) all)

are_delays : (i k : ℕ) → i + k ≤ 63 → AreDelays (delays_from i k)
are_delays i zero h = two_more i [] (omega arith) (All-nil IsDelay)
are_delays i (suc k) h = two_more i (delays_from (suc i) k) (omega arith) (are_delays (suc i) k (omega arith))

-- the sum of two numbers and others
sum_two : (a b : ℕ) (ns : List ℕ) → sum (a ∷ b ∷ ns) ≡ a + (b + sum ns)
sum_two a b ns = sum_by-cons (λ n. n) a (b ∷ ns) ∙ ap (λ m. a + m) (sum_by-cons (λ n. n) b ns)

short_together : (i k : ℕ) → i + k ≤ 63 → sum (amounts (delays_from i k)) ≤ (k + 1) * 2400
short_together i zero h = omega (arith, sum_two 1 (i * 37 + 1) [])
short_together i (suc k) h = omega (arith, sum_two 1 (i * 37 + 1) (amounts (delays_from (suc i) k)), short_together (suc i) k (omega arith))

pub accepted : (n : ℕ) → n ≤ 63 → AreAccepted (delays_from 0 n) (amounts (delays_from 0 n))
accepted n h = record { each = are_delays 0 n (omega arith); are = refl; within = omega (arith, short_together 0 n (omega arith)) }
