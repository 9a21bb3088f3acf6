-- Intervals of whole numbers, as spans of 32-bit numbers.
use Rattle.std.specs.Prelude.{ℕ, List, ℤ, pos, ◌≤ℤ◌, Bool, ◌&&◌, if◌then◌else◌, int_le, slice_index_or, FitsSigned}
use Rattle.std.specs.Int.{w32, int_min, int_max}
use Rattle.std.specs.Ordering.{int_eq}
use Rattle.fv_num.specs.headline.Words.{least, greatest}

-- the whole numbers from lo to hi
pub record Interval : Type 0 where
  pub lo : ℤ
  pub hi : ℤ

-- z lies in s
pub record IsWithin (s : Interval) (z : ℤ) : Type 0 where
  pub above : s.lo ≤ℤ z
  pub below : z ≤ℤ s.hi

-- s is no empty interval, of 32-bit numbers
pub record IsSpan (s : Interval) : Type 0 where
  pub ordered : s.lo ≤ℤ s.hi
  pub lo_fits : FitsSigned w32 s.lo
  pub hi_fits : FitsSigned w32 s.hi

-- all 32-bit numbers
abbrev pub full : Interval
full = record { lo = least 32; hi = greatest 32 }

-- one number
abbrev pub point : ℤ → Interval
point n = record { lo = n; hi = n }

-- whether it holds one number alone
abbrev pub is_point : Interval → Bool
is_point s = int_eq s.lo s.hi

-- the interval between two numbers, whichever is the lesser
abbrev pub between : ℤ → ℤ → Interval
between a b = record { lo = int_min a b; hi = int_max a b }

-- the least interval that holds both
abbrev pub hull : Interval → Interval → Interval
hull s t = record { lo = int_min s.lo t.lo; hi = int_max s.hi t.hi }

-- an interval of 32-bit numbers as it is, and every other as the full one (this project's profile)
abbrev pub fit : Interval → Interval
fit s = if int_le (least 32) s.lo && int_le s.hi (greatest 32) then s else full

-- the interval that stands at place i
abbrev pub span_at : List Interval → ℕ → Interval
span_at x i = slice_index_or x i (point (pos 0))
