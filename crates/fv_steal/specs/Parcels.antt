-- The parcels of a block's entry or exit edges (this project's profile).
use Rattle.std.specs.Prelude.{◌≡◌, ℕ, ◌+◌, ◌<◌, List, length, slice_index_or}

-- the parcels of n edges from one on, in order, all of one key
pub record AreParcelsFrom {C Key : Type 0} (edge_of : C → ℕ) (key_of : C → Key) (key : Key) (from n : ℕ) (ps : List C) : Type 0 where
  pub count : length ps ≡ n
  pub edges : (k : ℕ) (d : C) → k < n → edge_of (slice_index_or ps k d) ≡ from + k
  pub keys : (k : ℕ) (d : C) → k < n → key_of (slice_index_or ps k d) ≡ key
