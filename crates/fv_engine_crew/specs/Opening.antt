-- A block as it begins (this project's profile).
use Rattle.std.specs.Prelude.{◌≡◌, ℕ, ◌<◌, List, length, slice_index_or, Vec, ℤ}
use Rattle.std.specs.declared.alloc.Global.{Global}
use Rattle.std.specs.Global.{Box}
use Rattle.fv_lines.specs.Writer.{written_by}
use Rattle.fv_lines.specs.declared.writer.LaneWriter.{LaneWriter}
use Rattle.fv_engine_crew.specs.declared.start.Start.{Start}
use Rattle.fv_engine_crew.specs.declared.content.Writers.{Writers}
use Rattle.fv_engine_crew.specs.Contents.{tasks_in}
use Rattle.fv_engine_crew.specs.Dealt.{AreDealt}
use Rattle.fv_engine_crew.specs.Entries.{AreEntered}
use Rattle.fv_engine_crew.specs.Rooms.{AreRooms}
use Rattle.fv_engine_crew.specs.Swapped.{AreSwapped}
use Rattle.fv_engine_codes.specs.Cells.{ArePlaced}

-- the tasks are of the plan's loops, each lane has a writer that has written nothing, and all cells have lists and places
pub record IsOpening (k : Start) : Type 0 where
  pub loops : (tasks_in k).loops ≡ k.plan.now.loops
  pub lanes : length k.lanes.value.items ≡ length k.plan.now.lanes
  pub cells : length k.cells.value.items ≡ length k.plan.now.cells
  pub placed : ArePlaced k.plan.now k.places.now.places.items k.places.now.counts.items
  pub unwritten : (l : ℕ) (d : LaneWriter) → l < length k.plan.now.lanes → written_by (slice_index_or k.lanes.value.items l d) ≡ 0

-- the loops enter with the lists that their lanes are dealt to, and their cells
abbrev pub DealtRoomsEnter : Type 0
DealtRoomsEnter =
    (k : Start) (rooms dealt given : List (Box Writers)) (left : List (Vec ℤ Global)) → IsOpening k → AreRooms k.plan.now (tasks_in k) k.places.now rooms →
    AreDealt k.plan.now k.lanes.value.items rooms dealt →
    AreSwapped k.plan.now k.places.now.places.items k.cells.value.items left dealt given → AreEntered k given
