-- The core: what each worker may do next, and what becomes of the state (this project's profile).
use Rattle.std.specs.Prelude.{ℕ, suc, ◌-◌, ◌%◌, ltb, Bool, true, false, cond, ◌&&◌, not, List, [], ◌∷◌, ◌++◌, map}
use Rattle.std.specs.Prelude.{length, Option, Some, None, is_none, get_or, set, replicate, ◌==◌}
use Rattle.fv_graph.specs.Tasks.{bit}
use Rattle.fv_graph.specs.TasksBeside.{times}
use Rattle.fv_graph.specs.Words.{passing}
use Rattle.fv_graph.specs.Ends.{without, is_empty, front_is, but_front, back_is, but_back}
use Rattle.fv_graph.specs.Net.{Net, need_count}
use Rattle.fv_graph.specs.declared.event.Event.{Event}
use Rattle.fv_graph.specs.declared.event.Event.TheVariants.{Take, Steal, Finish, Arrive, Leave}

-- A state. By task: for how many tasks it waits, and whether it is done. By worker: its deque, front first, the task that it runs, the
-- edges that it owes, and whether it has left.
pub record Now : Type 0 where
  pub counts : List ℕ
  pub done : List Bool
  pub deques : List (List ℕ)
  pub runs : List (Option ℕ)
  pub owes : List (List ℕ)
  pub left : List Bool

-- this is the task that is run
abbrev pub is_run : ℕ → Option ℕ → Bool
is_run t None = false
is_run t (Some u) = u == t

-- the deque of a worker, front first
abbrev pub deque_of : Now → ℕ → List ℕ
deque_of s w = get_or s.deques w []

-- the task that a worker runs
abbrev pub run_of : Now → ℕ → Option ℕ
run_of s w = get_or s.runs w None

-- the edges that a worker owes
abbrev pub owes_of : Now → ℕ → List ℕ
owes_of s w = get_or s.owes w []

-- the task is done
abbrev pub is_done : Now → ℕ → Bool
is_done s t = get_or s.done t false

-- how many tasks a task still waits for
abbrev pub count_of : Now → ℕ → ℕ
count_of s t = get_or s.counts t 1

-- the worker is there, has not left, runs nothing and owes nothing
abbrev pub is_free : Now → ℕ → Bool
is_free s w = not (get_or s.left w true) && is_none (run_of s w) && is_empty (owes_of s w)

-- there is such an event in this state
abbrev pub is_legal : Net → Now → Event → Bool
is_legal n s (Take w t) = ltb w (length s.runs) && is_free s w && back_is (deque_of s w) t
is_legal n s (Steal w v t) = ltb w (length s.runs) && ltb v (length s.runs) && is_free s w && not (w == v) && front_is (deque_of s v) t
is_legal n s (Finish w t) = ltb w (length s.runs) && is_run t (run_of s w)
is_legal n s (Arrive w e) = ltb w (length s.runs) && not (times e (owes_of s w) == 0)
is_legal n s (Leave w) = ltb w (length s.runs) && is_free s w && is_empty (deque_of s w)

-- the deque after the reader's count has fallen to `count`
abbrev pub joined : ℕ → ℕ → List ℕ → List ℕ
joined t count d = cond (count == 0) (d ++ t ∷ []) d

-- the state that a legal event leaves
abbrev pub after : Net → Now → Event → Now
after n s (Take w t) = record s { deques = set s.deques w (but_back (deque_of s w)); runs = set s.runs w (Some t) }
after n s (Steal w v t) = record s { deques = set s.deques v (but_front (deque_of s v)); runs = set s.runs w (Some t) }
after n s (Finish w t) = record s { done = set s.done t true; runs = set s.runs w None; owes = set s.owes w (owes_of s w ++ n.feeds t) }
after n s (Arrive w e) = let t = n.reader e in let count = count_of s t - 1 in
    record s { counts = set s.counts t count; deques = set s.deques w (joined t count (deque_of s w)); owes = set s.owes w (without e (owes_of s w)) }
after n s (Leave w) = record s { left = set s.left w true }

-- the state after these events, if each is legal where it stands
abbrev pub replayed : Net → Now → List Event → Option Now
replayed n s [] = Some s
replayed n s (e ∷ es) = cond (is_legal n s e) (replayed n (after n s e) es) None

-- the ready tasks are dealt in turn
abbrev pub dealt : ℕ → ℕ → List ℕ → List (List ℕ) → List (List ℕ)
dealt workers k [] ds = ds
dealt workers k (t ∷ ts) ds = dealt workers (suc k) ts (set ds (k % workers) (get_or ds (k % workers) [] ++ t ∷ []))

-- the tasks that read no other, in order
abbrev pub ready : Net → List ℕ
ready n = passing (λ t. need_count n t == 0) 0 n.tasks

-- the numbers below n, in order
abbrev pub numbers : ℕ → List ℕ
numbers n = passing (λ _. true) 0 n

-- nothing is run or done, and the ready tasks are dealt
abbrev pub opening : Net → ℕ → Now
opening n workers = record {
  counts = map (need_count n) (numbers n.tasks);
  done = replicate n.tasks false;
  deques = dealt workers 0 (ready n) (replicate workers []);
  runs = replicate workers None;
  owes = replicate workers [];
  left = replicate workers false;
}

-- how often a task is taken or stolen in the events
abbrev pub takes : ℕ → Event → ℕ
takes t (Take w u) = bit (u == t)
takes t (Steal w v u) = bit (u == t)
takes t (Finish w u) = 0
takes t (Arrive w e) = 0
takes t (Leave w) = 0

-- 1 where the event takes or steals a task
abbrev pub is_take : Event → ℕ
is_take (Take w u) = 1
is_take (Steal w v u) = 1
is_take (Finish w u) = 0
is_take (Arrive w e) = 0
is_take (Leave w) = 0
