-- The lanes, tables and cells of one loop, as its code sees them (this project's profile).
use Rattle.std.specs.Prelude.{ℕ, ◌-◌, ◌++◌, List, length, map}
use Rattle.std.specs.Global.{Vec}
use base.Fml.{GName}
use Rattle.fv_loopcode.specs.headline.Lanes.{Lane}
use Rattle.fv_loopcode.specs.headline.State.{State}
use Rattle.fv_split_plan.specs.headline.View.{PlanView}
use Rattle.fv_engine_codes.specs.Cells.{AreCellsPlaced, cells_of}
use Rattle.fv_engine_codes.specs.declared.loop_cells.CellPlaces.{CellPlaces}
use Rattle.fv_engine_codes.specs.declared.loop_cells.LoopCells.{LoopCells}
use Rattle.fv_lines.specs.Halves.{Halves}
use Rattle.fv_lines.specs.Seen.{lane_seen}
use Rattle.fv_lines.specs.Writer.{list_of, part_of, outer_of, written_by, frames_of, shape_of}
use Rattle.fv_lines.specs.declared.shape.LaneShape.{LaneShape}
use Rattle.fv_lines.specs.declared.seen.Seen.{Seen}
use Rattle.fv_lines.specs.declared.writer.LaneWriter.{LaneWriter}
use Rattle.fv_engine_codes.specs.declared.loop_lanes.LoopLanes.{LoopLanes}

-- a lane that is being written, with room for the samples of the block that are to come
abbrev pub lane_open : LaneWriter → Lane
lane_open w = record { history = (shape_of w).history; items = list_of w; room = frames_of w - written_by w }

-- the lanes of a loop: its own, and then the seen ones
abbrev pub lanes_in : LoopLanes → List Lane
lanes_in s = map lane_open s.own.items ++ map lane_seen s.seen.items

-- all that its code finds and changes
abbrev pub state_in : LoopLanes → State
state_in s = record { lanes = lanes_in s; tables = s.cells.plan.now.tables; cells = cells_of s.cells }

-- the cells of a loop have places
abbrev pub AreLanesValid : LoopLanes → Type 0
AreLanesValid s = AreCellsPlaced s.cells

-- what no append changes of a writer: its part's loan, what ties it, its shape, and how many samples are to be written
pub record WriterRest : Type 0 where
  pub part : GName
  pub outer : Halves
  pub shape : LaneShape
  pub frames : ℕ

abbrev pub rest_of_writer : LaneWriter → WriterRest
rest_of_writer w = record { part = part_of w; outer = outer_of w; shape = shape_of w; frames = frames_of w }

-- what no write changes of the cells of a loop: the plan, the places, the loop, and how many lists there are
pub record CellsRest : Type 0 where
  pub plan : PlanView
  pub places : CellPlaces
  pub loop_no : ℕ
  pub count : ℕ

abbrev pub rest_of_cells : LoopCells → CellsRest
rest_of_cells s = record { plan = s.plan.now; places = s.places.now; loop_no = s.loop_no; count = length s.lists.items }

-- what no step changes of the lanes and cells of a loop
pub record LanesRest : Type 0 where
  pub own : List WriterRest
  pub seen : Vec Seen
  pub cells : CellsRest

abbrev pub rest_in : LoopLanes → LanesRest
rest_in s = record { own = map rest_of_writer s.own.items; seen = s.seen; cells = rest_of_cells s.cells }
