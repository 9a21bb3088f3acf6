-- What a gate is told of a block of an engine.
use Rattle.std.specs.Prelude.{◌≡◌, ℕ, ◌<◌, ◌≤◌, length, All}
use Rattle.fv_outside.specs.headline.Tasks.{Tasks}
use Rattle.fv_outside.specs.Tasks.{task_count}
use Rattle.fv_outside.specs.headline.Journal.{BlockEntry, Room, IsOrdered}
use Rattle.fv_outside.specs.declared.gate.Line.{Line}
use Rattle.fv_engine_tasks.specs.headline.Block.{vectors_of}
use Rattle.fv_engine.specs.Stands.{EngineView}

-- the plan's loops and reads, and the vectors of a block of these frames
abbrev pub tasks_told : EngineView → (frames : ℕ) → Tasks
tasks_told e frames = record { loops = e.plan.loops; vectors = vectors_of frames e.vector; reads = e.plan.reads }

-- an entry of these tasks, with a journal in order, of as many lines, each of one of the workers that were asked for
pub record IsEntry (e : EngineView) (frames : ℕ) (entry : BlockEntry) : Type 0 where
  pub tasks : entry.tasks ≡ tasks_told e frames
  pub ordered : IsOrdered entry.tasks entry.lines
  pub counted : length entry.lines ≡ task_count entry.tasks
  pub who : All (λ (line : Line). line.worker < e.workers) entry.lines

-- there is room for one call, a line for each task and the pairs
pub record HasRoomForBlock (room : Room) (tasks : Tasks) : Type 0 where
  pub calls : 1 ≤ room.calls
  pub lines : task_count tasks ≤ room.lines
  pub pairs : length tasks.reads ≤ room.pairs
