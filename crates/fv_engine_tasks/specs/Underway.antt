-- A block in the middle of its tasks, and at their end.
use Rattle.std.specs.Prelude.{◌≡◌, ℕ, ◌+◌, ◌*◌, ◌<◌, ◌≤◌, ltb, true, false, List, length, slice_index_or}
use Rattle.fv_outside.specs.headline.Tasks.{Tasks, bit, total, reads_task}
use Rattle.fv_outside.specs.Tasks.{task_count}
use Rattle.fv_outside.specs.headline.Journal.{is_line_of, IsOrdered}
use Rattle.fv_outside.specs.declared.tasks.Task.{Task}
use Rattle.fv_outside.specs.declared.gate.Line.{Line}
use Rattle.fv_graph.specs.Graph.{task_at}
use Rattle.fv_graph.specs.Core.{Now, is_done}
use Rattle.fv_loopcode.specs.headline.State.{State}
use Rattle.fv_loopcode.specs.Obeys.{Content}
use Rattle.fv_engine_tasks.specs.Events.{IsFree}
use Rattle.fv_engine_tasks.specs.Jobs.{left_to_do}
use Rattle.fv_engine_tasks.specs.Block.{Block, ObeysBlock, HoldUpTo, none_done}

-- what stands for a line where there is none
abbrev pub no_line : Line
no_line = record { task = record { loop_no = 0; vector = 0 }; worker = 0; start = 0; finish = 0 }

-- line k of a journal
abbrev pub line_at : List Line → ℕ → Line
line_at lines k = slice_index_or lines k no_line

-- the task is one of the block's
abbrev pub IsTaskIn : Tasks → Task → Type 0
IsTaskIn g t = (t.loop_no < g.loops) × (t.vector < g.vectors)

-- The journal so far, where vectors says how many of each loop are done: the lines of the tasks that are done, numbered in order.
pub record IsSoFar (g : Tasks) (vectors : ℕ → ℕ) (lines : List Line) : Type 0 where
  pub each : (t : Task) → IsTaskIn g t → total (λ line. bit (is_line_of t line)) lines ≡ bit (ltb t.vector (vectors t.loop_no))
  pub only : (k : ℕ) → k < length lines → IsTaskIn g (line_at lines k).task
  pub starts : (k : ℕ) → k < length lines → (line_at lines k).start ≡ 2 * k
  pub finishes : (k : ℕ) → k < length lines → (line_at lines k).finish ≡ 2 * k + 1
  -- a line's task reads no later one's
  pub behind : (k m : ℕ) → k < m → m < length lines → reads_task g (line_at lines k).task (line_at lines m).task ≡ false
  -- what a line's task reads is done
  pub reads : (k : ℕ) (t : Task) → k < length lines → IsTaskIn g t → reads_task g (line_at lines k).task t ≡ true → t.vector < vectors t.loop_no

-- A block between two of its tasks. The one worker is free, and some vectors of each loop are done. For every content that the
-- codes obey and that the places held as the block began, each place holds it up to these vectors. The journal has a line for each
-- task that is done.
pub record IsUnderway (g : Tasks) (b : Block) (first : State) (s : Now) (now : State) (lines : List Line) : Type 0 where
  pub vectors : ℕ → ℕ
  pub within : (j : ℕ) → vectors j ≤ g.vectors
  pub done : (j v : ℕ) → j < g.loops → v < g.vectors → is_done s (task_at g j v) ≡ ltb v (vectors j)
  pub tasks : length s.done ≡ task_count g
  pub free : IsFree s
  pub long : length now.lanes ≡ b.plan.lanes
  pub cells : length now.cells ≡ b.plan.cells
  pub holds : (f : Content) → ObeysBlock b f → HoldUpTo b f none_done first → HoldUpTo b f vectors now
  pub journal : IsSoFar g vectors lines
  pub counted : length lines + left_to_do s.done ≡ task_count g

-- The block's tasks are done. Each place holds what it is to hold up to all vectors of its loop. The journal is in order, with a
-- line for each task.
pub record EndsBlock (g : Tasks) (b : Block) (first now : State) (lines : List Line) : Type 0 where
  pub vectors : ℕ → ℕ
  pub all : (j : ℕ) → j < g.loops → vectors j ≡ g.vectors
  pub long : length now.lanes ≡ b.plan.lanes
  pub cells : length now.cells ≡ b.plan.cells
  pub holds : (f : Content) → ObeysBlock b f → HoldUpTo b f none_done first → HoldUpTo b f vectors now
  pub journal : IsOrdered g lines
  pub counted : length lines ≡ task_count g
