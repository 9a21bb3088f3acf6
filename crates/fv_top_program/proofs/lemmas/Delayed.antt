-- Delays that are refused are refused by the first bad span, or by their sum.
use Rattle.std.proofs.Common.{◌≡◌, ◌⊎◌, ℕ, zero, suc, ◌<◌, ◌≤◌, Bool, true, false, List, [], ◌∷◌, ◌++◌, ℤ, pos, ◌≤ℤ◌, sym, ◌∙◌, ap, arith, refl, inl, inr}
use Rattle.std.specs.Prelude.{sum, Option, Some, None, Ok, Err, int_lt, ◌<ℤ◌}
use Rattle.std.proofs.lemmas.Bool.{le-leb, lt-leb}
use Rattle.std.proofs.lemmas.Int.{ints}
use Rattle.fv_interval.specs.Interval.{Interval}
use Rattle.fv_interval.specs.declared.refusal.DelayRefusal.{DelayRefusal}
use Rattle.fv_interval.specs.declared.refusal.DelayRefusal.TheVariants as delay
use Rattle.fv_interval.specs.Delays.{IsDelay, AreDelays, AreAccepted, IsSpanRefused, IsFirstRefused, IsDelayRefusal}
use Rattle.fv_top_report.specs.declared.refusal.Refusal.{Refusal}
use Rattle.fv_top_report.specs.declared.refusal.Refusal.TheVariants as no
use Rattle.fv_top_program.specs.headline.Compiled.{Compiled}
use Rattle.fv_top_program.specs.headline.Program.{bad_delay, first_bad, delayed, delays_in, delay_in}
use Rattle.fv_top_program.specs.Program.{IsOfText}
use Rattle.fv_top_report.specs.Layers.{of_delay}
use Rattle.fv_base.specs.declared.limits.TheConstants.{DELAY_BUDGET, DELAY_LIMIT}

-- ---- tests of whole numbers

int_no : (a b : ℤ) → b ≤ℤ a → int_lt a b ≡ false
int_no a b h = by (int_lt a b) refl
  where
    by : (t : Bool) → int_lt a b ≡ t → int_lt a b ≡ false
    by true e = absurd (omega (arith, ints))
    by false e = e

int_yes : (a b : ℤ) → a <ℤ b → int_lt a b ≡ true
int_yes a b h = by (int_lt a b) refl
  where
    by : (t : Bool) → int_lt a b ≡ t → int_lt a b ≡ true
    by true e = e
    by false e = absurd (omega (arith, ints))

-- ---- the first bad span

good_first : (s : Interval) (behind : Option Refusal) → IsDelay s → bad_delay s behind ≡ behind
good_first s behind d =
    let lo = int_no s.lo (pos 0) d.natural in
    let hi = int_no (pos DELAY_LIMIT) s.hi d.short in
    rw (lo, hi) refl

pub none_bad : (ss : List Interval) → AreDelays ss → first_bad ss ≡ None
none_bad [] h = refl
none_bad (s ∷ ss) h = good_first s (first_bad ss) (h zero s (omega arith)) ∙ none_bad ss (λ k d l. h (suc k) d (omega arith))

bad_behind : (before : List Interval) (s : Interval) (behind : List Interval) (r : Refusal) → AreDelays before
    → ((rest : Option Refusal) → bad_delay s rest ≡ Some r) → first_bad (before ++ s ∷ behind) ≡ Some r
bad_behind [] s behind r h bad = bad (first_bad behind)
bad_behind (b ∷ bs) s behind r h bad =
    good_first b (first_bad (bs ++ s ∷ behind)) (h zero b (omega arith)) ∙ bad_behind bs s behind r (λ k d l. h (suc k) d (omega arith)) bad

first_refused : (ss : List Interval) (e : DelayRefusal) (r : Refusal)
    → ((s : Interval) → IsSpanRefused s e → (rest : Option Refusal) → bad_delay s rest ≡ Some r) → IsFirstRefused ss e → first_bad ss ≡ Some r
first_refused ss e r bad f = ap first_bad f.place ∙ bad_behind f.before f.span f.behind r f.none_before (bad f.span f.refused)

-- ---- what a program's delays say

pub delays_pass : (p : Compiled) (ds : List ℕ) → AreAccepted (delays_in p) ds → delayed p (first_bad (delays_in p)) ≡ Ok p
delays_pass p ds a =
    let none = none_bad (delays_in p) a.each in
    let same : sum ds ≡ delay_in p = ap sum a.are in
    let within : delay_in p ≤ DELAY_BUDGET = let h = a.within in omega arith in
    let test = le-leb (delay_in p) DELAY_BUDGET within in
    rw (none, test) refl

-- the refusals of delays are of a text, but want of memory
pub delays_stop : (p : Compiled) (e : DelayRefusal) (r : Refusal) → r ≡ of_delay e → IsDelayRefusal (delays_in p) e
    → (r ≡ no.NoMemory) ⊎ (IsOfText r × (delayed p (first_bad (delays_in p)) ≡ Err r))
delays_stop p (delay.DelayNegative n) r is h =
    rw is (inr (
      refl,
      ap (delayed p) (first_refused (delays_in p) (delay.DelayNegative n) (no.DelayNegative n)
          (λ s k rest. let t = int_yes s.lo (pos 0) k.1 in rw t (ap (λ z. Some (no.DelayNegative z)) (sym k.0))) h),
    ))
delays_stop p (delay.DelayTooLong n) r is h =
    rw is (inr (
      refl,
      ap (delayed p) (first_refused (delays_in p) (delay.DelayTooLong n) (no.DelayTooLong n)
          (λ s k rest.
          let t = int_no s.lo (pos 0) k.1 in
          let u = int_yes (pos DELAY_LIMIT) s.hi k.2 in
          rw (t, u) (ap (λ z. Some (no.DelayTooLong z)) (sym k.0))) h),
    ))
delays_stop p (delay.DelayBudget n) r is h =
    let none = none_bad (delays_in p) h.0 in
    let over : DELAY_BUDGET < delay_in p = let e = h.1 in let l = h.2 in omega arith in
    let test = lt-leb (delay_in p) DELAY_BUDGET over in
    rw is (inr (refl, rw (none, test) (ap (λ m. Err (no.DelayBudget m)) (sym h.1))))
delays_stop p delay.NoMemory r is h = inl is
