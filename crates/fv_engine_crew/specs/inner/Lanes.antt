-- The lanes and cells of a block as it begins and as it ends.
use Rattle.std.specs.Prelude.{◌≡◌, ℕ, ◌<◌, List, length, map, slice_index_or, Vec, ℤ}
use Rattle.std.specs.declared.alloc.Global.{Global}
use Rattle.fv_loopcode.specs.Obeys.{Content}
use Rattle.fv_loopcode.specs.headline.State.{State}
use Rattle.fv_split_plan.specs.Rows.{lists_of}
use Rattle.fv_lines.specs.Writer.{list_of, written_by}
use Rattle.fv_lines.specs.declared.writer.LaneWriter.{LaneWriter}
use Rattle.fv_engine_tasks.specs.headline.Block.{vectors_of}
use Rattle.fv_engine_tasks.specs.Block.{Block, ObeysBlock, HoldUpTo, none_done, IsReal}
use Rattle.fv_engine_codes.specs.Lanes.{lane_open}
use Rattle.fv_engine_crew.specs.Contents.{SameWriter, block_of, tasks_in}
use Rattle.fv_engine_crew.specs.declared.start.Start.{Start}
use Rattle.fv_engine_crew.specs.declared.block.SpreadBlock.{SpreadBlock}
use Rattle.fv_engine_crew.specs.Spread.{block_in, tasks_of}

-- what the places hold
abbrev pub state_of : (tables : List (List ℤ)) → List LaneWriter → (lists : List (Vec ℤ Global)) → State
state_of tables ws lists = record { lanes = map lane_open ws; tables = tables; cells = lists_of lists }

-- all lanes, with nothing written, and all cells, where the block's codes go on from what they hold
pub record AreOpen (b : Block) (tables : List (List ℤ)) (ws : List LaneWriter) (lists : List (Vec ℤ Global)) : Type 0 where
  pub count : length ws ≡ b.plan.lanes
  pub cells : length lists ≡ b.plan.cells
  pub unwritten : (l : ℕ) (d : LaneWriter) → l < b.plan.lanes → written_by (slice_index_or ws l d) ≡ 0
  pub real : IsReal b (state_of tables ws lists)

-- the start of a block, over these lanes and cells
pub record IsStartOf (b : SpreadBlock) (ws : List LaneWriter) (lists : List (Vec ℤ Global)) (k : Start) : Type 0 where
  pub block : block_of k ≡ block_in b
  pub tasks : tasks_in k ≡ tasks_of b
  pub plan : k.plan.now ≡ b.plan.now
  pub places : k.places.now ≡ b.places.now
  pub lanes : k.lanes.value.items ≡ ws
  pub cells : k.cells.value.items ≡ lists

-- two lists have the same writers, lane by lane
pub record AreSame (begun ws : List LaneWriter) : Type 0 where
  pub count : length ws ≡ length begun
  pub each : (l : ℕ) (d : LaneWriter) → l < length begun → SameWriter (slice_index_or ws l d) (slice_index_or begun l d)

-- The same writers as at first, all written, and as many lists. They hold what the block's codes leave, from what was held as it
-- began.
pub record AreWhole (b : Block) (tables : List (List ℤ)) (begun ws : List LaneWriter) (before after : List (Vec ℤ Global)) : Type 0 where
  pub same : AreSame begun ws
  pub full : (l : ℕ) (d : LaneWriter) → l < length begun → written_by (slice_index_or ws l d) ≡ b.frames
  pub count : length after ≡ b.plan.cells
  pub holds : (f : Content) → ObeysBlock b f → HoldUpTo b f none_done (state_of tables begun before)
      → HoldUpTo b f (λ j. vectors_of b.frames b.vector) (state_of tables ws after)

-- The same writers as at first, with nothing written. They hold what they held as the block began.
pub record AreUntouched (begun ws : List LaneWriter) : Type 0 where
  pub same : AreSame begun ws
  pub lists : (l : ℕ) (d : LaneWriter) → l < length begun → list_of (slice_index_or ws l d) ≡ list_of (slice_index_or begun l d)
