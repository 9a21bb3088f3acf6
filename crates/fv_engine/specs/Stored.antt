-- How an engine is stored (this project's profile).
use Rattle.std.specs.Prelude.{◌≡◌, ℕ, ◌<◌, ◌≤◌, length, map, IfSome}
use Rattle.fv_base.specs.declared.limits.TheConstants.{MOST_BLOCK, MOST_CHANNELS, MOST_VECTORS}
use Rattle.fv_loopcode.specs.headline.Code.{NamesInput}
use Rattle.fv_pool.specs.Region.{cells_of}
use Rattle.fv_lines.specs.declared.shape.LaneState.{LaneState}
use Rattle.fv_split_plan.specs.headline.View.{PlanView, code_of}
use Rattle.fv_split_plan.specs.Rows.{lists_of}
use Rattle.fv_engine_tasks.specs.headline.Block.{vectors_of}
use Rattle.fv_engine_tasks.specs.Jobs.{HaveScratch}
use Rattle.fv_engine_crew.specs.Contents.{parts_of}
use Rattle.fv_engine.specs.Stands.{EngineView, Standing}
use Rattle.fv_engine.specs.Crews.{IsCrewOf}
use Rattle.fv_engine.specs.Made.{AreShapes, AreTasksOf}
use Rattle.fv_engine.specs.declared.engine.Engine.TheInside.{Inside}

-- the engine that the fields mean
abbrev pub view_of : Inside → EngineView
view_of e = record {
  plan = e.plan;
  channels = e.sizes.channels;
  workers = e.sizes.workers;
  block = e.sizes.block;
  vector = e.sizes.vector;
  region = cells_of e.lanes.region;
  lengths = e.lanes.layout;
  starts = map (λ (s : LaneState). s.start) e.lanes.states.items;
  cells = lists_of e.lanes.lists.items;
}

-- the sizes are within their limits, and the plan names only channels that are there
pub record HasSizes (p : PlanView) (channels block vector : ℕ) : Type 0 where
  pub some : 0 < p.loops
  pub block_low : 1 ≤ block
  pub block_high : block ≤ MOST_BLOCK
  pub vector_low : 1 ≤ vector
  pub vectors_high : vectors_of block vector ≤ MOST_VECTORS
  pub channels_high : channels ≤ MOST_CHANNELS
  pub inputs : (j i : ℕ) → NamesInput (code_of p j) i → i < channels

-- All that an engine stores fits together. The lanes have the plan's shapes, and there is a list for each of its cells. The tasks
-- are of its loops, as are a crew's codes, and the crew has at most as many workers as were asked for. The engine stands for some
-- frames.
pub record IsStored (e : Inside) : Type 0 where
  pub sizes : HasSizes e.plan e.sizes.channels e.sizes.block e.sizes.vector
  pub shapes : AreShapes e.plan e.sizes.block e.lanes.shapes.items
  pub lists : length e.lanes.lists.items ≡ length e.plan.cells
  pub tasks_are : AreTasksOf e.plan (vectors_of e.sizes.block e.sizes.vector) e.runner.tasks
  pub scratch : HaveScratch (parts_of e.plan) e.runner.scratch.items
  pub held_long : length e.held.items ≡ length e.plan.held
  pub crew : IfSome e.crew (λ c. IsCrewOf e.plan e.runner.tasks.tasks c)
  pub some_worker : 1 ≤ e.sizes.workers
  pub asked : IfSome e.crew (λ c. c.workers ≤ e.sizes.workers)
  pub standing : Standing (view_of e)
