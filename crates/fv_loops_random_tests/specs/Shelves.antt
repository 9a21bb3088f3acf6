-- Lanes, tables and cells in vectors.
use Rattle.std.specs.Prelude.{◌-◌, List, length, take, map, ℤ}
use Rattle.fv_loopcode.specs.headline.Lanes.{Lane}
use Rattle.fv_loopcode.specs.headline.State.{State}
use Rattle.fv_loops_random_tests.specs.declared.shelves.Track.{Track}
use Rattle.fv_loops_random_tests.specs.declared.shelves.Items.{Items}
use Rattle.fv_loops_random_tests.specs.declared.shelves.Shelves.{Shelves}

-- what is written, and room for the samples that are left
abbrev pub lane_on : Track → Lane
lane_on t = record { history = t.history; items = take t.written t.samples.items; room = length t.samples.items - t.written }

-- the items of a table or of cells
abbrev pub items_of : Items → List ℤ
items_of x = x.numbers.items

-- all of them
abbrev pub state_on : Shelves → State
state_on s = record { lanes = map lane_on s.lanes.items; tables = map items_of s.tables.items; cells = map items_of s.cells.items }
