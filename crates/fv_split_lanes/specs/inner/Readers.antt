-- Who reads each signal: none, one, or many.
use Rattle.std.specs.Prelude.{◌≡◌, ◌≢◌, ℕ, ◌<◌, List, [], ◌∷◌, length, slice_index_or, slice_set, nat_eq, if◌then◌else◌}
use Rattle.fv_components.specs.headline.Reach.{Links, Leads}
use Rattle.fv_split_lanes.specs.declared.reader.Reader.{Reader}
use Rattle.fv_split_lanes.specs.declared.reader.Reader.TheVariants.{Nobody, One, Many}

-- the readers of a signal
abbrev pub reader_at : List Reader → ℕ → Reader
reader_at rs s = slice_index_or rs s Nobody

-- what a signal's readers come to, where R p says that p reads it
abbrev pub IsReader : (R : ℕ → Type 0) → Reader → Type 0
IsReader R Nobody = (p : ℕ) → R p → ⊥
IsReader R (One q) = R q × ((p : ℕ) → R p → p ≡ q)
IsReader R Many = (p : ℕ) × (q : ℕ) × (p ≢ q) × R p × R q

-- one reader more, which may be the same
abbrev pub met_by : Reader → ℕ → Reader
met_by Nobody r = One r
met_by (One q) r = if nat_eq q r then One q else Many
met_by Many r = Many

-- the signals of a row have the reader r
abbrev pub with_row : List Reader → List ℕ → ℕ → List Reader
with_row readers [] r = readers
with_row readers (s ∷ ss) r = with_row (slice_set readers s (met_by (reader_at readers s) r)) ss r

-- signal p, which is below r, reads s
pub record ReadsBelow (reads : Links) (r s p : ℕ) : Type 0 where
  pub below : p < r
  pub leads : Leads reads p s

-- each signal's readers below r
pub record AreReaders (reads : Links) (n r : ℕ) (readers : List Reader) : Type 0 where
  pub long : length readers ≡ n
  pub each : (s : ℕ) → s < n → IsReader (ReadsBelow reads r s) (reader_at readers s)
