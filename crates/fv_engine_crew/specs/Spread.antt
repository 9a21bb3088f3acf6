-- A block that is spread over workers (this project's profile).
use Rattle.std.specs.Prelude.{◌≡◌, ℕ, ◌<◌, ◌≤◌, List, length, sum, All, Vec, ℤ}
use Rattle.std.specs.declared.alloc.Global.{Global}
use Rattle.fv_base.specs.declared.limits.TheConstants.{MOST_WORKERS}
use Rattle.fv_outside.specs.headline.Tasks.{Tasks}
use Rattle.fv_loopcode.specs.headline.State.{State}
use Rattle.fv_split_plan.specs.Rows.{lists_of}
use Rattle.fv_engine_codes.specs.Cells.{ArePlaced}
use Rattle.fv_lines.specs.Solo.{held_at, history_at, opening_lanes, AreHeld, AreFramed}
use Rattle.fv_lines.specs.declared.shape.LaneShape.{LaneShape}
use Rattle.fv_lines.specs.declared.shape.LaneState.{LaneState}
use Rattle.fv_lines.specs.Cut.{lengths_by}
use Rattle.fv_engine_tasks.specs.Block.{Block, IsReal}
use Rattle.fv_engine_tasks.specs.Jobs.{IsJob}
use Rattle.fv_engine_codes.specs.Codes.{AreLocalCodes, AreLaneCounts}
use Rattle.fv_engine_crew.specs.Contents.{parts_of}
use Rattle.fv_engine_crew.specs.declared.block.SpreadBlock.{SpreadBlock}

-- the tasks
abbrev pub tasks_of : SpreadBlock → Tasks
tasks_of b = b.tasks.now.tasks

-- the block, by what determines its samples
abbrev pub block_in : SpreadBlock → Block
block_in b = record {
  plan = parts_of b.plan.now;
  vector = b.vector;
  frames = b.frames;
  channels = b.channels;
  held = b.held.now;
  input = b.input.now;
}

-- The tasks are the block's, with the code of each loop over the lanes that it sees and how many these are. All cells have places,
-- each lane has a shape, and the outputs name lanes. There is at least one worker, and at most as many as a run may ask for.
pub record IsSpread (b : SpreadBlock) : Type 0 where
  pub job : IsJob (block_in b) (tasks_of b)
  pub codes : AreLocalCodes b.plan.now (tasks_of b) b.codes.now
  pub counts : AreLaneCounts b.plan.now (tasks_of b) b.counts.now
  pub cells : ArePlaced b.plan.now b.places.now.places.items b.places.now.counts.items
  pub lanes : length b.shapes.now ≡ length b.plan.now.lanes
  pub outputs : All (λ l. l < length b.plan.now.lanes) b.plan.now.outputs
  pub some_worker : 1 ≤ b.workers
  pub most_workers : b.workers ≤ MOST_WORKERS

-- what the places hold as the block begins over these cells and lists
abbrev pub opening_of : SpreadBlock → List LaneState → List ℤ → (lists : List (Vec ℤ Global)) → State
opening_of b states cells lists = record {
  lanes = opening_lanes (lengths_by b.shapes.now) b.shapes.now states b.frames cells;
  tables = b.plan.now.tables;
  cells = lists_of lists;
}

-- The cells and the states hold each lane's history, with room for the block. The plan's cells have lists, and the block's codes go
-- on from these.
pub record MayRunOver (b : SpreadBlock) (states : List LaneState) (cells : List ℤ) (lists : List (Vec ℤ Global)) : Type 0 where
  pub count : length states ≡ length b.shapes.now
  pub room : sum (lengths_by b.shapes.now) ≤ length cells
  pub held_there : AreHeld (lengths_by b.shapes.now) b.shapes.now states
  pub framed : AreFramed (lengths_by b.shapes.now) b.shapes.now b.frames
  pub many : length lists ≡ length b.plan.now.cells
  pub real : IsReal (block_in b) (opening_of b states cells lists)

-- each lane has the history that it had
abbrev pub HoldAsBefore : List LaneShape → (before : List LaneState) → List ℤ → (after : List LaneState) → List ℤ → Type 0
HoldAsBefore shapes before cells after left =
    (i : ℕ) → i < length shapes
    → held_at (lengths_by shapes) after (history_at shapes i) i left ≡ held_at (lengths_by shapes) before (history_at shapes i) i cells
