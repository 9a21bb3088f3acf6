-- Numbers of 32 bits, and the pointwise operations on them: whole-number arithmetic that is then wrapped.
use Rattle.std.specs.Prelude.{ℕ, ◌-◌, ◌^◌, List, ℤ, pos, ◌+ℤ◌, ◌-ℤ◌, ◌*ℤ◌, neg_ℤ, Bool, not, ◌||◌, ◌==◌, if◌then◌else◌, int_lt, int_le, int_div}
use Rattle.std.specs.Prelude.{int_rem, slice_index_or, unsigned_abs, bit_and, bit_or, bit_xor}
use Rattle.std.specs.Int.{w32, int_wrap, int_rem_euclid, int_div_euclid, int_min, int_max}
use Rattle.std.specs.Ordering.{int_eq}
use Rattle.fv_num.specs.declared.op.Op.{Op}
use Rattle.fv_num.specs.declared.op.Op.TheVariants.{Add, Sub, Mul, Div, Rem, And, Or, Xor, Shl, Shr, Lt, Le, Gt, Ge, Eq, Ne, Min, Max, Abs, Select2, Select3}

-- what 32 bits in two's complement keep of n (this project's profile: all signals wrap)
abbrev pub wrap : ℤ → ℤ
wrap n = int_wrap w32 n

-- the number from 0 to m - 1 that is equal to x modulo m
abbrev pub residue : ℤ → ℕ → ℕ
residue x m = unsigned_abs (int_rem_euclid x (pos m))

-- the bits of a 32-bit number in two's complement, read as a number from 0 to 2 ^ 32 - 1
abbrev pub bits_of : ℤ → ℕ
bits_of x = residue x (2 ^ 32)

-- 1 where the test passes (Faust manual: comparisons give 1 or 0)
abbrev pub truth : Bool → ℤ
truth b = if b then pos 1 else pos 0

-- the number that stands at place i
abbrev pub argument : List ℤ → ℕ → ℤ
argument x i = slice_index_or x i (pos 0)

-- the quotient toward zero, 0 where the divisor is 0 (this project's profile)
abbrev pub quotient : ℤ → ℤ → ℤ
quotient x y = if int_eq y (pos 0) then pos 0 else wrap (int_div x y)

-- the remainder with the dividend's sign, 0 where the divisor is 0 (this project's profile)
abbrev pub remainder : ℤ → ℤ → ℤ
remainder x y = if int_eq y (pos 0) then pos 0 else wrap (int_rem x y)

-- a shift goes by its amount modulo 32, from 0 to 31 (this project's profile)
abbrev pub amount : ℤ → ℕ
amount y = residue y 32

-- x times 2 to the amount
abbrev pub shifted_left : ℤ → ℤ → ℤ
shifted_left x y = wrap (x *ℤ pos (2 ^ amount y))

-- x divided by 2 to the amount, rounded down, so that the sign stays
abbrev pub shifted_right : ℤ → ℤ → ℤ
shifted_right x y = int_div_euclid x (pos (2 ^ amount y))

-- the magnitude; that of the least number wraps to itself
abbrev pub magnitude : ℤ → ℤ
magnitude x = wrap (pos (unsigned_abs x))

-- the second where the first is 0, else the third (Faust manual)
abbrev pub select2 : ℤ → ℤ → ℤ → ℤ
select2 x y z = if int_eq x (pos 0) then y else z

-- the second where the first is 0, the third where it is 1, else the fourth (Faust manual)
abbrev pub select3 : ℤ → ℤ → ℤ → ℤ → ℤ
select3 x y z u = if int_eq x (pos 0) then y else if int_eq x (pos 1) then z else u

-- how many numbers an operation takes
abbrev pub inputs_of : Op → ℕ
inputs_of Abs = 1
inputs_of Select2 = 3
inputs_of Select3 = 4
inputs_of _ = 2

-- an operation's value (Faust manual, section on primitives; the edges are this project's profile)
abbrev pub apply_of : Op → List ℤ → ℤ
apply_of Add x = wrap (argument x 0 +ℤ argument x 1)
apply_of Sub x = wrap (argument x 0 -ℤ argument x 1)
apply_of Mul x = wrap (argument x 0 *ℤ argument x 1)
apply_of Div x = quotient (argument x 0) (argument x 1)
apply_of Rem x = remainder (argument x 0) (argument x 1)
apply_of And x = wrap (pos (bit_and (bits_of (argument x 0)) (bits_of (argument x 1))))
apply_of Or x = wrap (pos (bit_or (bits_of (argument x 0)) (bits_of (argument x 1))))
apply_of Xor x = wrap (pos (bit_xor (bits_of (argument x 0)) (bits_of (argument x 1))))
apply_of Shl x = shifted_left (argument x 0) (argument x 1)
apply_of Shr x = shifted_right (argument x 0) (argument x 1)
apply_of Lt x = truth (int_lt (argument x 0) (argument x 1))
apply_of Le x = truth (int_le (argument x 0) (argument x 1))
apply_of Gt x = truth (int_lt (argument x 1) (argument x 0))
apply_of Ge x = truth (int_le (argument x 1) (argument x 0))
apply_of Eq x = truth (int_eq (argument x 0) (argument x 1))
apply_of Ne x = truth (not (int_eq (argument x 0) (argument x 1)))
apply_of Min x = int_min (argument x 0) (argument x 1)
apply_of Max x = int_max (argument x 0) (argument x 1)
apply_of Abs x = magnitude (argument x 0)
apply_of Select2 x = select2 (argument x 0) (argument x 1) (argument x 2)
apply_of Select3 x = select3 (argument x 0) (argument x 1) (argument x 2) (argument x 3)

-- ---- the widths of samples

-- a sample has 8, 16, 24 or 32 bits (RIFF WAVE 1991)
abbrev pub is_sample_width : ℕ → Bool
is_sample_width bits = bits == 8 || bits == 16 || bits == 24 || bits == 32

-- the least number of this many bits, in two's complement
abbrev pub least : ℕ → ℤ
least bits = neg_ℤ (pos (2 ^ (bits - 1)))

-- the greatest number of this many bits, in two's complement
abbrev pub greatest : ℕ → ℤ
greatest bits = pos (2 ^ (bits - 1) - 1)

-- x, or the bound beyond which it lies
abbrev pub clamped : ℕ → ℤ → ℤ
clamped bits x = int_max (least bits) (int_min x (greatest bits))
