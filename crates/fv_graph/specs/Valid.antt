-- The invariant of a state of the core (this project's profile).
use Rattle.std.specs.Prelude.{◌≡◌, ℕ, ◌+◌, ◌-◌, ◌<◌, ◌≤◌, true, ◌&&◌, [], length, get_or, Option, Some, None, ◌==◌}
use Rattle.fv_graph.specs.Tasks.{bit, total}
use Rattle.fv_graph.specs.TasksBeside.{times}
use Rattle.fv_graph.specs.Net.{Net}
use Rattle.fv_graph.specs.Core.{Now, is_run, deque_of, run_of, owes_of, is_done, count_of}

-- 1 where the task is run
abbrev pub runs_it : ℕ → Option ℕ → ℕ
runs_it t r = bit (is_run t r)

-- 1 where some task is run
abbrev pub runs_some : Option ℕ → ℕ
runs_some None = 0
runs_some (Some t) = 1

-- `arrived e` is 1 where the edge has arrived, `took t` how often the task was taken, `amount` how many were
pub record Valid (n : Net) (workers : ℕ) (arrived took : ℕ → ℕ) (amount : ℕ) (s : Now) : Type 0 where
  pub counts_long : length s.counts ≡ n.tasks
  pub done_long : length s.done ≡ n.tasks
  pub deques_long : length s.deques ≡ workers
  pub runs_long : length s.runs ≡ workers
  pub owes_long : length s.owes ≡ workers
  pub left_long : length s.left ≡ workers
  -- a task with the count 0 lies in one deque, or is run by one worker, or is done, and no other is
  pub placed : (t : ℕ) → t < n.tasks → total (times t) s.deques + (total (runs_it t) s.runs + bit (is_done s t)) ≡ bit (count_of s t == 0)
  pub inside : (t : ℕ) → n.tasks ≤ t → total (times t) s.deques + total (runs_it t) s.runs ≡ 0
  -- an inner edge of a done task is owed once, or has arrived, and no other is
  pub edges : (e : ℕ) → total (times e) s.owes + arrived e ≡ bit (n.is_inner e && is_done s (n.source e))
  pub counted : (t : ℕ) → t < n.tasks → count_of s t + total arrived (n.needs t) ≡ length (n.needs t)
  -- a worker that has left, as one that is not there, has nothing
  pub away : (w : ℕ) → get_or s.left w true ≡ true → (deque_of s w ≡ []) × (run_of s w ≡ None) × (owes_of s w ≡ [])
  pub told : (t : ℕ) → took t ≡ total (runs_it t) s.runs + bit (is_done s t)
  pub in_all : amount ≡ total runs_some s.runs + total bit s.done

-- by a state alone: 1 where the inner edge e has arrived
abbrev pub arrived_of : Net → Now → ℕ → ℕ
arrived_of n s e = bit (n.is_inner e && is_done s (n.source e)) - total (times e) s.owes

-- 1 where the task was taken
abbrev pub took_of : Now → ℕ → ℕ
took_of s t = total (runs_it t) s.runs + bit (is_done s t)

-- how many tasks were taken
abbrev pub amount_of : Now → ℕ
amount_of s = total runs_some s.runs + total bit s.done

-- a valid state, whatever led to it
abbrev pub IsValid : Net → ℕ → Now → Type 0
IsValid n workers s = Valid n workers (arrived_of n s) (took_of s) (amount_of s) s
