-- What a block begins with, and what it leaves (this project's profile).
use Rattle.std.specs.Prelude.{◌≡◌, ℕ, [], List, length, Vec, ℤ}
use Rattle.std.specs.declared.alloc.Global.{Global}
use Rattle.fv_outside.specs.headline.Tasks.{Tasks}
use Rattle.fv_outside.specs.declared.gate.Line.{Line}
use Rattle.fv_pool.specs.Region.{cells_of}
use Rattle.fv_loopcode.specs.headline.State.{State}
use Rattle.fv_lines.specs.Solo.{opening_lanes, AreFramed}
use Rattle.fv_lines.specs.declared.shape.LaneShape.{LaneShape}
use Rattle.fv_lines.specs.declared.shape.LaneState.{LaneState}
use Rattle.fv_split_plan.specs.Rows.{lists_of}
use Rattle.fv_engine_tasks.specs.Block.{Parts, Block, IsReal}
use Rattle.fv_engine_tasks.specs.Jobs.{IsJob, HaveScratch}
use Rattle.fv_engine_crew.specs.Ran.{Ran}
use Rattle.fv_engine.specs.declared.lanes.Lanes.{Lanes}
use Rattle.fv_engine.specs.declared.runner.TaskRunner.{TaskRunner}

-- the places as a block begins: the lanes that these shapes, states and cells hold, the plan's tables, and the items of the lists
abbrev pub opening_over : (tables : List (List ℤ)) → (lengths : List ℕ) → List LaneShape → List LaneState → (frames : ℕ) → (cells : List ℤ)
    → (lists : List (Vec ℤ Global)) → State
opening_over tables lengths shapes states frames cells lists = record {
  lanes = opening_lanes lengths shapes states frames cells;
  tables = tables;
  cells = lists_of lists;
}

-- the places as a block begins, of an engine's lanes and cells
abbrev pub opening_of : (tables : List (List ℤ)) → Lanes → (frames : ℕ) → State
opening_of tables l frames = opening_over tables l.layout l.shapes.items l.states.items frames (cells_of l.region) l.lists.items

-- The tasks are the block's, and none is told yet; there is scratch for each loop's code, and the block's codes go on from what the places
-- hold.
pub record MayRun (b : Block) (tables : List (List ℤ)) (l : Lanes) (r : TaskRunner) : Type 0 where
  pub framed : AreFramed l.layout l.shapes.items b.frames
  pub count : length l.layout ≡ b.plan.lanes
  pub lists : length l.lists.items ≡ b.plan.cells
  pub job : IsJob b r.tasks.tasks
  pub real : IsReal b (opening_of tables l b.frames)
  pub scratch : HaveScratch b.plan r.scratch.items
  pub untold : r.lines.items ≡ []

-- the tasks of the block ran from the old lanes on, and left the new ones, these lines and these samples of the outputs
abbrev pub RanOver : Tasks → Block → (tables : List (List ℤ)) → (old new : Lanes) → List Line → (outputs : List ℕ) → (output : List ℤ) → Type 0
RanOver g b tables old new lines outputs output =
    Ran g b old.layout old.shapes.items (opening_of tables old b.frames) (cells_of new.region) new.states.items new.lists.items lines
    outputs output

-- the lanes have the parts and shapes that they had, and there are as many lists
pub record AreSameLanes (old new : Lanes) : Type 0 where
  pub layout : new.layout ≡ old.layout
  pub shapes : new.shapes ≡ old.shapes
  pub lists : length new.lists.items ≡ length old.lists.items

-- the tasks, and scratch for each loop of the plan
pub record IsSameRunner (p : Parts) (old new : TaskRunner) : Type 0 where
  pub tasks : new.tasks ≡ old.tasks
  pub scratch : HaveScratch p new.scratch.items
