-- All numbers below a number, and the stamp word beside the others.
use Rattle.std.proofs.Common.{◌≡◌, ℕ, zero, suc, ◌+◌, ◌%◌, ◌^◌, ◌<◌, true, List, [], ◌∷◌, length, set, slice_index, refl, ap, ◌∙◌, arith}
use Rattle.std.specs.List.Sorted.{IsStrictlyIncreasing}
use Rattle.fv_graph.specs.Words.{passing}

pub long_numbers : (from k : ℕ) → length (passing (λ _. true) from k) ≡ k
long_numbers from zero = refl
long_numbers from (suc k) = ap suc (long_numbers (suc from) k)

number_at : (from k i : ℕ) → i < k → slice_index (passing (λ _. true) from k) i ≡ from + i
number_at from zero i l = absurd (omega arith)
number_at from (suc k) zero l = omega arith
number_at from (suc k) (suc i) l = let r = number_at (suc from) k i (omega arith) in omega arith

-- they rise
pub rising_numbers : (from k : ℕ) → IsStrictlyIncreasing (passing (λ _. true) from k)
rising_numbers from k i l = let n = long_numbers from k in let a = number_at from k i (omega arith) in
    let b = number_at from k (i + 1) (omega arith) in omega arith

-- the words after the first do not see it
pub behind : (ns : List ℕ) (x y : ℕ) → slice_index (set ns 0 y) (1 + x) ≡ slice_index ns (1 + x)
behind ns x y = ap (slice_index (set ns 0 y)) (let q : 1 + x ≡ suc x = omega arith in q) ∙ next ns x y
    ∙ ap (slice_index ns) (let q : suc x ≡ 1 + x = omega arith in q)
  where
    next : (ns : List ℕ) (x y : ℕ) → slice_index (set ns 0 y) (suc x) ≡ slice_index ns (suc x)
    next [] x y = refl
    next (m ∷ ms) x y = refl

-- a number that does not wrap
pub one_more : (k : ℕ) → k < 18446744073709551615 → (k + 1) % 2 ^ 64 ≡ k + 1
one_more k h = omega arith
