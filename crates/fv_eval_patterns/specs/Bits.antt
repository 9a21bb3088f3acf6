-- Sets of places, with a bit for each (this project's profile).
use Rattle.std.specs.Prelude.{ℕ, ◌/◌, ◌%◌, Bool, List, nat_eq, slice_index_or}
use Rattle.std.specs.Int.{bit_at}

-- a place is in the set that these words are
unfoldable pub has : List ℕ → ℕ → Bool
has words place = nat_eq (bit_at (slice_index_or words (place / 64) 0) (place % 64)) 1
