-- The span of each pointwise operation's value, from the spans of its arguments (this project's profile).
use Rattle.std.specs.Prelude.{ℕ, ◌-◌, ◌^◌, max, List, ℤ, pos, negsuc, ◌+ℤ◌, ◌-ℤ◌, ◌*ℤ◌, neg_ℤ, ◌&&◌, if◌then◌else◌, int_lt, int_le, int_div, unsigned_abs, Bool}
use Rattle.std.specs.Int.{w32, int_min, int_max, leading_zeros}
use Rattle.std.specs.Ordering.{int_eq}
use Rattle.fv_num.specs.declared.op.Op.{Op}
use Rattle.fv_num.specs.declared.op.Op.TheVariants.{Add, Sub, Mul, Div, Rem, And, Or, Xor, Shl, Shr, Min, Max, Abs, Select2, Select3}
use Rattle.fv_num.specs.headline.Words.{amount, shifted_right, least}
use Rattle.fv_num.specs.headline.Interval.{Interval, full, point, is_point, between, hull, fit, span_at}

-- the least and the greatest of four numbers
abbrev pub spread : ℤ → ℤ → ℤ → ℤ → Interval
spread a b c d = hull (between a b) (between c d)

-- the least and the greatest result over the ends
abbrev pub over_ends : (ℤ → ℤ → ℤ) → Interval → Interval → Interval
over_ends f x y = spread (f x.lo y.lo) (f x.lo y.hi) (f x.hi y.lo) (f x.hi y.hi)

-- the greater magnitude of the two ends
abbrev pub reach : Interval → ℕ
reach x = max (unsigned_abs x.lo) (unsigned_abs x.hi)

-- the quotients by a known k
abbrev pub quotients_by : Interval → ℤ → Interval
quotients_by x k = if int_eq k (pos 0) then point (pos 0) else fit (between (int_div x.lo k) (int_div x.hi k))

-- a quotient lies between those of the ends where the divisor is known, and is no greater than its dividend
abbrev pub quotients : Interval → Interval → Interval
quotients x y = if is_point y then quotients_by x y.lo else fit (record { lo = neg_ℤ (pos (reach x)); hi = pos (reach x) })

-- the remainders of x's numbers, which have their signs, where none is below low or above high
abbrev pub signed_remainders : Interval → ℤ → ℤ → Interval
signed_remainders x low high =
    if int_le (pos 0) x.lo
    then record { lo = pos 0; hi = high }
    else (if int_le x.hi (pos 0) then record { lo = low; hi = pos 0 } else record { lo = low; hi = high })

-- the greatest magnitude of a remainder by k
abbrev pub greatest_remainder : ℤ → ℕ
greatest_remainder k = unsigned_abs k - 1

-- the remainders by a known k
abbrev pub remainders_by : Interval → ℤ → Interval
remainders_by x k =
    if int_eq k (pos 0)
    then point (pos 0)
    else signed_remainders x (int_max x.lo (neg_ℤ (pos (greatest_remainder k)))) (int_min x.hi (pos (greatest_remainder k)))

-- a remainder is no greater than its dividend, and lesser than a divisor that is known
abbrev pub remainders : Interval → Interval → Interval
remainders x y = if is_point y then remainders_by x y.lo else signed_remainders x x.lo x.hi

-- no number of the interval is negative
abbrev pub is_natural : Interval → Bool
is_natural x = int_le (pos 0) x.lo

-- the span of `&`: where one of two numbers is not negative, their common bits are at most that one
abbrev pub conjunctions : Interval → Interval → Interval
conjunctions x y =
    if is_natural x
    then record { lo = pos 0; hi = if is_natural y then int_min x.hi y.hi else x.hi }
    else (if is_natural y then record { lo = pos 0; hi = y.hi } else full)

-- the least power of two above n, a number of 32 bits: 2 to the number of its binary digits
abbrev pub power_above : ℕ → ℕ
power_above n = 2 ^ (32 - leading_zeros w32 n)

-- the span of `|` and `xor`: where two numbers are not negative, the result is below the power of two above both
abbrev pub disjunctions : Interval → Interval → Interval
disjunctions x y =
    if is_natural x && is_natural y
    then record { lo = pos 0; hi = pos (power_above (unsigned_abs (int_max x.hi y.hi)) - 1) }
    else full

-- a shift to the left by a known amount multiplies; any other may give every number
abbrev pub left_shifts : Interval → Interval → Interval
left_shifts x y =
    if is_point y
    then fit (record { lo = x.lo *ℤ pos (2 ^ amount y.lo); hi = x.hi *ℤ pos (2 ^ amount y.lo) })
    else full

-- the shifts to the right by a known amount
abbrev pub right_shifts_by : Interval → ℤ → Interval
right_shifts_by x by = record { lo = shifted_right x.lo by; hi = shifted_right x.hi by }

-- a shift to the right by any amount brings a number nearer to 0, or to -1 where it is negative
abbrev pub right_shifts : Interval → Interval → Interval
right_shifts x y =
    if is_point y
    then right_shifts_by x y.lo
    else (if is_natural x then record { lo = pos 0; hi = x.hi }
    else (if int_lt x.hi (pos 0) then record { lo = x.lo; hi = negsuc 0 } else x))

-- 0 or 1
abbrev pub truths : Interval
truths = record { lo = pos 0; hi = pos 1 }

-- the lesser of two numbers lies between the lesser ends
abbrev pub minima : Interval → Interval → Interval
minima x y = record { lo = int_min x.lo y.lo; hi = int_min x.hi y.hi }

-- the greater of two numbers lies between the greater ends
abbrev pub maxima : Interval → Interval → Interval
maxima x y = record { lo = int_max x.lo y.lo; hi = int_max x.hi y.hi }

-- the magnitude of the least number wraps to itself
abbrev pub magnitudes : Interval → Interval
magnitudes x =
    if int_eq x.lo (least 32)
    then full
    else (if is_natural x then x
    else (if int_le x.hi (pos 0) then record { lo = neg_ℤ x.hi; hi = neg_ℤ x.lo }
    else record { lo = pos 0; hi = int_max (neg_ℤ x.lo) x.hi }))

-- the span of an operation of two inputs
abbrev pub span_of_two : Op → Interval → Interval → Interval
span_of_two Add x y = fit (over_ends (λ a b. a +ℤ b) x y)
span_of_two Sub x y = fit (over_ends (λ a b. a -ℤ b) x y)
span_of_two Mul x y = fit (over_ends (λ a b. a *ℤ b) x y)
span_of_two Div x y = quotients x y
span_of_two Rem x y = remainders x y
span_of_two And x y = conjunctions x y
span_of_two Or x y = disjunctions x y
span_of_two Xor x y = disjunctions x y
span_of_two Shl x y = left_shifts x y
span_of_two Shr x y = right_shifts x y
span_of_two Min x y = minima x y
span_of_two Max x y = maxima x y
span_of_two _ x y = truths

-- an operation's span
abbrev pub span_of : Op → List Interval → Interval
span_of Abs x = magnitudes (span_at x 0)
span_of Select2 x = hull (span_at x 1) (span_at x 2)
span_of Select3 x = hull (hull (span_at x 1) (span_at x 2)) (span_at x 3)
span_of op x = span_of_two op (span_at x 0) (span_at x 1)
