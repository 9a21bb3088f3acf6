-- A block that ran over the cells of a region, and the lists of a plan's cells.
use Rattle.std.specs.Prelude.{◌≡◌, ℕ, ◌+◌, ◌*◌, ◌<◌, List, length, drop, slice_index_or, Vec, ℤ, pos}
use Rattle.std.specs.declared.alloc.Global.{Global}
use Rattle.fv_split_plan.specs.Rows.{lists_of}
use Rattle.fv_outside.specs.headline.Tasks.{Tasks}
use Rattle.fv_outside.specs.declared.gate.Line.{Line}
use Rattle.fv_loopcode.specs.headline.Lanes.{lane_of}
use Rattle.fv_loopcode.specs.headline.State.{State}
use Rattle.fv_lines.specs.Solo.{held_at, history_at}
use Rattle.fv_lines.specs.declared.shape.LaneShape.{LaneShape}
use Rattle.fv_lines.specs.declared.shape.LaneState.{LaneState}
use Rattle.fv_engine_tasks.specs.Block.{Block}
use Rattle.fv_engine_tasks.specs.Underway.{EndsBlock}
use Rattle.fv_engine_tasks.specs.Outputs.{sample_of}

-- What the cells and the states hold: the end of each lane's list; and what the lists hold.
pub record Ran (g : Tasks) (b : Block) (lengths : List ℕ) (shapes : List LaneShape) (first : State) (cells : List ℤ) (states : List LaneState)
    (lists : List (Vec ℤ Global)) (lines : List Line) (outputs : List ℕ) (output : List ℤ) : Type 0 where
  -- what the places hold as the block ends
  pub now : State
  pub ends : EndsBlock g b first now lines
  pub next : (i : ℕ) → i < length lengths → held_at lengths states (history_at shapes i) i cells ≡ drop b.frames (lane_of now.lanes i).items
  pub items : now.cells ≡ lists_of lists
  pub samples : (t j : ℕ) → t < b.frames → j < length outputs
      → slice_index_or output (t * length outputs + j) (pos 0) ≡ sample_of now.lanes t (slice_index_or outputs j 0)
