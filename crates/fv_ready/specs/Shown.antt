-- What the board shows: a state of the lean core. The least of its numbers says which worker a seat stands for.
use Rattle.std.specs.Prelude.{◌≡◌, ℕ, ◌+◌, ◌<◌, ◌≢◌, true, false, ◌&&◌, List, [], length, slice_index, get_or, Some, None, ltb}
use mathlib.Core.Option.{some}
use lib.ListN.{get_elem?}
use Rattle.atomic_table.specs.Table.{State}
use Rattle.fv_graph.specs.Tasks.{bit, total}
use Rattle.fv_graph.specs.TasksBeside.{times}
use Rattle.fv_graph.specs.Net.{Net}
use Rattle.fv_graph.specs.Core.{Now, is_run, run_of, owes_of, is_done, count_of, opening}
use Rattle.fv_graph.specs.Lean.{lean_replayed}
use Rattle.fv_graph.specs.declared.event.Event.{Event}
use Rattle.fv_ready.specs.declared.view.View.{View}
use Rattle.fv_ready.specs.Rule.{count_word, wins, arrives, finishes, done_by, all}

-- the worker that a seat stands for: its first number, which is its least one while no seat is spent (`in_order` of the whole rule)
abbrev pub worker_of : {C : Type 0} → View C → ℕ
worker_of v = get_or v.numbers 0 0

-- one seat's part
pub record ShowsSeat {C : Type 0} (n : Net) (z : Now) (v : View C) : Type 0 where
  pub there : worker_of v < length z.runs
  pub stays : get_or z.left (worker_of v) true ≡ false
  pub runs : (t : ℕ) → bit (is_run t (run_of z (worker_of v))) + done_by (finishes t) v ≡ done_by (wins t) v
  pub owes : (e : ℕ) → times e (owes_of z (worker_of v)) + done_by (arrives e) v ≡ bit (n.is_inner e && ltb 0 (done_by (finishes (n.source e)) v))

-- a worker that has not left, runs nothing and owes nothing
pub record IsIdle (z : Now) (k : ℕ) : Type 0 where
  pub there : k < length z.runs
  pub stays : get_or z.left k true ≡ false
  pub runs : run_of z k ≡ None
  pub owes : owes_of z k ≡ []

module _ {C S : Type 0} (n : Net) (workers : ℕ) where
  -- the words and the lists of all seats are those of this state of the lean core
  pub record Shows (s : State S (View C)) (z : Now) : Type 0 where
    pub long : (length z.counts ≡ n.tasks) × (length z.done ≡ n.tasks) × (length z.owes ≡ length z.runs)
    pub counts : (t : ℕ) → t < n.tasks → count_of z t ≡ slice_index s.words (count_word t)
    pub done : (t : ℕ) → bit (is_done z t) ≡ all (finishes t) s.views
    pub running : (t : ℕ) → total (λ r. bit (is_run t r)) z.runs + all (finishes t) s.views ≡ all (wins t) s.views
    pub seat : (id : ℕ) (v : View C) → get_elem? s.views id ≡ some v → ShowsSeat n z v
    pub apart : (id other : ℕ) (v u : View C) → get_elem? s.views id ≡ some v → get_elem? s.views other ≡ some u → worker_of v ≡ worker_of u → id ≡ other
    -- what no seat's first number names is an idle worker
    pub idle : (k : ℕ) → k < workers → ((id : ℕ) (v : View C) → get_elem? s.views id ≡ some v → worker_of v ≢ k) → IsIdle z k

  -- the rule's last part, while no seat is spent
  abbrev pub Reached : State S (View C) → Type 0
  Reached s = (events : List Event) × (z : Now) × (lean_replayed n (opening n workers) events ≡ Some z) × Shows s z

-- what a claim asks: each task that the seat took is finished, and each inner edge out of it has arrived
abbrev pub OwesNothing : {C : Type 0} → Net → View C → Type 0
OwesNothing n v = ((t : ℕ) → done_by (finishes t) v ≡ done_by (wins t) v) ×
    ((e : ℕ) → done_by (arrives e) v ≡ bit (n.is_inner e && ltb 0 (done_by (finishes (n.source e)) v)))
