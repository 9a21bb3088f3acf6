-- The number of a literal, as its 32 bits are read.
use Rattle.std.proofs.Common.{◌≡◌, ℕ, zero, suc, ◌+◌, ◌-◌, ◌%◌, ◌^◌, ◌<◌, arith, ap, pos, neg_ℤ, to_z, w32}
use Rattle.std.specs.Int.{int_wrap}
use Rattle.fv_diagram.specs.Words.{wrap}

small : (n : ℕ) → n < 2 ^ 32 → n ≡ n % 2 ^ 32
small n h = omega arith

pub literal_wraps : (n : ℕ) → n < 2 ^ 32 → to_z w32 n ≡ wrap (pos n)
unfolding int_wrap
literal_wraps n h = ap (to_z w32) (small n h)

none_left : (r : ℕ) → r < 2 ^ 32 → (r + 0) % 2 ^ 32 ≡ 0 → r ≡ 0 % 2 ^ 32
none_left r h e = omega arith

complement : (m r : ℕ) → suc m < 2 ^ 32 → r < 2 ^ 32 → (r + suc m) % 2 ^ 32 ≡ 0 → r ≡ 2 ^ 32 - 1 - m % 2 ^ 32
complement m r h l e = omega arith

pub negative_wraps : (n r : ℕ) → n < 2 ^ 32 → r < 2 ^ 32 → (r + n) % 2 ^ 32 ≡ 0 → to_z w32 r ≡ wrap (neg_ℤ (pos n))
unfolding int_wrap
negative_wraps zero r h l e = ap (to_z w32) (none_left r l e)
negative_wraps (suc m) r h l e = ap (to_z w32) (complement m r h l e)
