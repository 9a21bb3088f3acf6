-- What the writer of a lane shows.
use Rattle.std.specs.Prelude.{ℕ, List, ◌++◌, ℤ}
use base.Fml.{GName}
use Rattle.fv_loopcode.specs.headline.Lanes.{Lane}
use Rattle.fv_pool.specs.declared.loan.Halves.{Halves}
use Rattle.fv_lines.specs.declared.shape.LaneShape.{LaneShape}
use Rattle.fv_lines.specs.declared.writer.LaneWriter.{LaneWriter}

-- the lane: its history and the samples written so far
abbrev pub list_of : LaneWriter → List ℤ
list_of w = w.high.front.now ++ w.low.front.now

-- how its part's loan ends where nothing more is written
abbrev pub content_of : LaneWriter → List ℤ
content_of w = (w.low.front.now ++ w.low.rest.items) ++ (w.high.front.now ++ w.high.rest.items)

-- the name of its part's loan
abbrev pub part_of : LaneWriter → GName
part_of w = w.halves.whole

-- how many samples are written, and how many are to be
abbrev pub written_by : LaneWriter → ℕ
written_by w = w.written

abbrev pub frames_of : LaneWriter → ℕ
frames_of w = w.frames

abbrev pub shape_of : LaneWriter → LaneShape
shape_of w = w.shape

-- what ties its part's loan to the loan that the part was cut from
abbrev pub outer_of : LaneWriter → Halves
outer_of w = w.outer

-- the lane as one sees it now, which takes no more (this project's profile)
abbrev pub lane_written : LaneWriter → Lane
lane_written w = record { history = (shape_of w).history; items = list_of w; room = 0 }
