-- What a recorder shows.
use Rattle.std.proofs.Common.{◌≡◌, ℕ, ◌<◌, length, Option, None, Some, arith}
use Rattle.std.specs.Prelude.{option_map, IsSomeAnd}
use Rattle.fv_outside.specs.headline.Journal.{Told}

-- a block below the number of calls is told
pub is_told : (o : Option Told) (n i : ℕ) → option_map (λ (t : Told). length t.entries) o ≡ Some n → i < n → IsSomeAnd o (λ t. i < length t.entries)
is_told None n i e l = absurd cc
is_told (Some t) n i e l = let q : length t.entries ≡ n = cc in omega (arith, q, l)
