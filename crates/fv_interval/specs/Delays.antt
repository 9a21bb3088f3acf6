-- What calls say beside `headline/Delays`: the delays of a diagram, and which of them are refused (this project's profile).
use Rattle.std.specs.Prelude.{◌≡◌, ℕ, ◌<◌, ◌≤◌, List, ◌∷◌, ◌++◌, sum, All, pos, ◌≤ℤ◌, ◌<ℤ◌}
use Rattle.fv_num.specs.headline.Interval.{Interval}
use Rattle.fv_interval.specs.declared.refusal.DelayRefusal.{DelayRefusal}
use Rattle.fv_interval.specs.declared.refusal.DelayRefusal.TheVariants as refusal
use Rattle.fv_interval.specs.headline.Delays.{amounts}
use Rattle.fv_base.specs.declared.limits.TheConstants.{DELAY_BUDGET, DELAY_LIMIT}

-- a span of delays that are not refused
pub record IsDelay (s : Interval) : Type 0 where
  pub natural : pos 0 ≤ℤ s.lo
  pub short : s.hi ≤ℤ pos DELAY_LIMIT

-- none of the spans is refused
abbrev pub AreDelays : List Interval → Type 0
AreDelays ss = All IsDelay ss

-- the delays of spans none of which is refused, and whose sum is within the limit
pub record AreAccepted (ss : List Interval) (ds : List ℕ) : Type 0 where
  pub each : AreDelays ss
  pub are : ds ≡ amounts ss
  pub within : sum ds ≤ DELAY_BUDGET

-- the refusal of a span: its least number where that is negative, else its greatest where that is too great
abbrev pub IsSpanRefused : Interval → DelayRefusal → Type 0
IsSpanRefused s (refusal.DelayNegative n) = (n ≡ s.lo) × (s.lo <ℤ pos 0)
IsSpanRefused s (refusal.DelayTooLong n) = (n ≡ s.hi) × (pos 0 ≤ℤ s.lo) × (pos DELAY_LIMIT <ℤ s.hi)
IsSpanRefused s _ = ⊥

-- the refusal of the first span that is refused
pub record IsFirstRefused (ss : List Interval) (e : DelayRefusal) : Type 0 where
  pub before : List Interval
  pub span : Interval
  pub behind : List Interval
  pub place : ss ≡ before ++ span ∷ behind
  pub none_before : AreDelays before
  pub refused : IsSpanRefused span e

-- the refusal of the spans of a diagram's delays: that of the first one that is refused, or else that of their sum
abbrev pub IsDelayRefusal : List Interval → DelayRefusal → Type 0
IsDelayRefusal ss refusal.NoMemory = Unit {0}
IsDelayRefusal ss (refusal.DelayBudget n) = AreDelays ss × (n ≡ sum (amounts ss)) × (DELAY_BUDGET < n)
IsDelayRefusal ss e = IsFirstRefused ss e
