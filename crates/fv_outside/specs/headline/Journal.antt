-- What a gate is told of a block, and when the block's journal is in order (this project's profile).
use Rattle.std.specs.Prelude.{◌≡◌, ℕ, ◌+◌, ◌*◌, ◌<◌, ◌≤◌, Bool, true, ◌&&◌, ◌==◌, List, length, Contains, AllPairs}
use Rattle.fv_outside.specs.declared.tasks.Task.{Task}
use Rattle.fv_outside.specs.declared.gate.Line.{Line}
use Rattle.fv_outside.specs.headline.Tasks.{Tasks, bit, total, reads_task}

-- one block: its tasks, and the journal of who ran them when
pub record BlockEntry : Type 0 where
  pub tasks : Tasks
  pub lines : List Line

-- how much a gate still keeps
pub record Room : Type 0 where
  pub calls : ℕ
  pub lines : ℕ
  pub pairs : ℕ

-- what a gate was told so far, and its room
pub record Told : Type 0 where
  pub entries : List BlockEntry
  pub room : Room

-- the line speaks of this task
abbrev pub is_line_of : Task → Line → Bool
is_line_of t line = (line.task.loop_no == t.loop_no) && (line.task.vector == t.vector)

-- how often a stamp stands in the journal
abbrev pub stamped : ℕ → List Line → ℕ
stamped n lines = total (λ line. bit (line.start == n) + bit (line.finish == n)) lines

-- each start is less than those after it
abbrev pub StartsRise : List Line → Type 0
StartsRise lines = AllPairs (λ a b. a.start < b.start) lines

-- The journal of a block: one line for each task and no other, in the order of their starts. The stamps count from 0 on, and none
-- stands twice. Each start is before its finish, and each task after all that it reads.
pub record IsOrdered (tasks : Tasks) (lines : List Line) : Type 0 where
  pub each_once : (t : Task) → t.loop_no < tasks.loops → t.vector < tasks.vectors → total (λ line. bit (is_line_of t line)) lines ≡ 1
  pub no_other : (line : Line) → Contains lines line → (line.task.loop_no < tasks.loops) × (line.task.vector < tasks.vectors)
  pub stamps : (n : ℕ) → stamped n lines ≤ 1
  pub from_zero : (line : Line) → Contains lines line → line.finish < 2 * length lines
  pub spans : (line : Line) → Contains lines line → line.start < line.finish
  pub after_reads : (a b : Line) → Contains lines a → Contains lines b → reads_task tasks b.task a.task ≡ true → a.finish < b.start
  pub starts : StartsRise lines
