-- Laws on the spans of wires: what they are for (this project's profile).
use Rattle.std.specs.Prelude.{ℤ}
use Rattle.fv_num.specs.headline.Interval.{Interval, IsWithin, IsSpan}

-- a number of a span of 32-bit numbers
abbrev pub IsOf : Interval → ℤ → Type 0
IsOf s z = IsSpan s × IsWithin s z
