-- A lane of one sample, and cells of one item.
use Rattle.std.specs.Prelude.{Bool, true, false, List, [], ◌∷◌, ℤ}
use Rattle.fv_loopcode.specs.headline.Lanes.{Lane}
use Rattle.fv_loopcode.specs.headline.State.{State}

-- the lane that has this sample, or room for one
abbrev pub lane_with : Bool → ℤ → Lane
lane_with true v = record { history = 0; items = v ∷ []; room = 0 }
lane_with false v = record { history = 0; items = []; room = 1 }

-- that lane, these tables, and the cells of this item
abbrev pub one_of_each : List (List ℤ) → Bool → (sample item : ℤ) → State
one_of_each tables is_written v x = record { lanes = lane_with is_written v ∷ []; tables = tables; cells = (x ∷ []) ∷ [] }
