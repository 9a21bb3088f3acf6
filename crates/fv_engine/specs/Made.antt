-- What an engine is made of.
use Rattle.std.specs.Prelude.{◌≡◌, ℕ, ◌<◌, ◌≤◌, List, length, take, ℤ, IfSome}
use Rattle.fv_signal.specs.Frames.{Stream}
use Rattle.fv_outside.specs.headline.Tasks.{reads_loop}
use Rattle.fv_graph.specs.Graph.{Graph}
use Rattle.fv_pool.specs.Layout.{part}
use Rattle.fv_pool.specs.Region.{cells_of}
use Rattle.fv_lines.specs.Hold.{from_start}
use Rattle.fv_lines.specs.Shape.{IsLaneLength}
use Rattle.fv_lines.specs.Solo.{history_at, block_at, len_at, start_at}
use Rattle.fv_lines.specs.declared.shape.LaneShape.{LaneShape}
use Rattle.fv_loopcode.specs.headline.State.{list_at}
use Rattle.fv_split_plan.specs.headline.View.{PlanView, lane_info, cells_info}
use Rattle.fv_split_plan.specs.Rows.{lists_of}
use Rattle.fv_engine_tasks.specs.Jobs.{HaveScratch}
use Rattle.fv_engine_crew.specs.Contents.{parts_of}
use Rattle.fv_engine.specs.Past.{past}
use Rattle.fv_engine.specs.declared.lanes.Lanes.{Lanes}
use Rattle.fv_engine_tasks.specs.headline.Block.{vectors_of}
use Rattle.fv_engine.specs.Crews.{IsCrewOf}
use Rattle.fv_engine.specs.declared.make.EngineParts.{EngineParts}
use Rattle.fv_engine.specs.declared.runner.TaskRunner.{TaskRunner}

-- each lane has a shape, of its history and this block, and the length for both
pub record AreShapes (p : PlanView) (block : ℕ) (shapes : List LaneShape) : Type 0 where
  pub count : length shapes ≡ length p.lanes
  pub histories : (l : ℕ) → l < length p.lanes → history_at shapes l ≡ (lane_info p l).history
  pub blocks : (l : ℕ) → l < length p.lanes → block_at shapes l ≡ block
  pub lengths : (l : ℕ) → l < length p.lanes → IsLaneLength (lane_info p l).history block (len_at shapes l)

-- the tasks are those of the plan's loops, for as many vectors as a whole block has
pub record AreTasksOf (p : PlanView) (most : ℕ) (t : Graph) : Type 0 where
  pub loops : t.tasks.loops ≡ p.loops
  pub pairs : (j i : ℕ) → reads_loop t.tasks.reads j i ≡ reads_loop p.reads j i
  pub most_are : t.most ≡ most

-- the first n of a plan's cells have the items of their tables
pub record BeginAsTables (p : PlanView) (n : ℕ) (lists : List (List ℤ)) : Type 0 where
  pub count : length lists ≡ n
  pub each : (k : ℕ) → k < n → list_at lists k ≡ list_at p.tables (cells_info p k).table

-- the lanes of a plan, which hold the past of any stream before time 0, and its cells, which begin as their tables
pub record AreLanes (p : PlanView) (block : ℕ) (lanes : Lanes) : Type 0 where
  pub shapes : AreShapes p block lanes.shapes.items
  pub blank : (l : ℕ) → l < length p.lanes → (v : Stream) →
      take (lane_info p l).history (from_start (start_at lanes.states.items l) (part lanes.layout l (cells_of lanes.region)))
      ≡ past (lane_info p l).history v 0
  pub lists : BeginAsTables p (length p.cells) (lists_of lanes.lists.items)

-- what runs the tasks of a plan, for at most this many vectors
pub record IsRunner (p : PlanView) (most : ℕ) (r : TaskRunner) : Type 0 where
  pub tasks_are : AreTasksOf p most r.tasks
  pub scratch : HaveScratch (parts_of p) r.scratch.items

-- what an engine of a plan works with, for at most these workers, for frames of a block and frames of a vector
pub record AreEngineParts (p : PlanView) (workers block vector : ℕ) (parts : EngineParts) : Type 0 where
  pub lanes : AreLanes p block parts.lanes
  pub held : length parts.held.items ≡ length p.held
  pub runner : IsRunner p (vectors_of block vector) parts.runner
  pub crew : IfSome parts.crew (λ c. IsCrewOf p parts.runner.tasks.tasks c)
  pub asked : IfSome parts.crew (λ c. c.workers ≤ workers)
