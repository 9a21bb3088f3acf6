-- A lane, a table and cells in vectors.
use Rattle.std.specs.Prelude.{◌≡◌, ◌+◌, ◌-◌, ◌<◌, ℕ, [], ◌∷◌, length, take}
use Rattle.fv_loopcode.specs.headline.Lanes.{Lane}
use Rattle.fv_loopcode.specs.headline.State.{State}
use Rattle.fv_loops_tests.specs.declared.shelf.Shelf.{Shelf}

-- the lane: what is written, and room for the samples that are left
abbrev pub lane_in : Shelf → Lane
lane_in s = record { history = s.history; items = take s.written s.samples.items; room = length s.samples.items - s.written }

-- one of each
abbrev pub state_in : Shelf → State
state_in s = record { lanes = lane_in s ∷ []; tables = s.table.items ∷ []; cells = s.cells.items ∷ [] }

-- the lane begins with one sample and has room for count more, and the lists have items
pub record HasRoom (s : Shelf) (count : ℕ) : Type 0 where
  pub history : s.history ≡ 1
  pub written : s.written ≡ 1
  pub room : length s.samples.items ≡ 1 + count
  pub table : 0 < length s.table.items
  pub cells : 0 < length s.cells.items
