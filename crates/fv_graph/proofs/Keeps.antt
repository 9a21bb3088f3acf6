-- A stored core after a legal event.
use Rattle.std.proofs.Common.{◌≡◌, ℕ, ◌-◌, ◌<◌, ◌≤◌, set, true, List, [], Bool, false, Option, None, map, replicate, get_or, sym, ap, ◌∙◌, subst, refl, arith}
use Rattle.std.specs.Vec.{vec_capacity}
use Rattle.fv_graph.specs.Tasks.{Tasks}
use Rattle.fv_graph.specs.TasksBeside.{task_count}
use Rattle.fv_graph.specs.Graph.{IsGraph, edges_of, net_of, reader_of}
use Rattle.fv_graph.proofs.lemmas.Graphs.{is_net}
use Rattle.fv_graph.specs.Core.{Now, is_legal, after, count_of, deque_of, owes_of, joined, opening, numbers, ready, dealt}
use Rattle.fv_graph.specs.Net.{need_count}
use Rattle.fv_graph.specs.Ends.{without}
use Rattle.fv_graph.specs.Valid.{IsValid}
use Rattle.fv_graph.specs.Kept.{rooms_of, owed_rooms}
use Rattle.fv_graph.specs.Running.{Running}
use Rattle.fv_graph.specs.Stored.{now_of, running_of, IsStored}
use Rattle.fv_graph.specs.declared.event.Event.{Event}
use Rattle.fv_graph.specs.declared.event.Event.TheVariants.{Arrive}
use Rattle.fv_graph.specs.declared.task_core.Core.TheInside.{Inside}
use Rattle.fv_graph.proofs.Stepping.{valid_after, valid_now}
use Rattle.fv_graph.proofs.lemmas.Opens.{opens}

-- the tasks, the workers and the room are the same
pub record SameRoom (c d : Inside) : Type 0 where
  pub tasks : d.seen.value.tasks ≡ c.seen.value.tasks
  pub workers : d.workers ≡ c.workers
  pub room_tasks : d.room_tasks ≡ c.room_tasks
  pub room_edges : d.room_edges ≡ c.room_edges
  pub counts : vec_capacity d.counts ≡ vec_capacity c.counts
  pub done : vec_capacity d.done ≡ vec_capacity c.done
  pub deques : rooms_of d.deques.items ≡ rooms_of c.deques.items
  pub owes : owed_rooms d.owes.items ≡ owed_rooms c.owes.items

-- two states with the same parts
pub same_now : (s t : Now) → s.counts ≡ t.counts → s.done ≡ t.done → s.deques ≡ t.deques → s.runs ≡ t.runs → s.owes ≡ t.owes → s.left ≡ t.left → s ≡ t
same_now s t a b c d e f = λ i. record { counts = a i; done = b i; deques = c i; runs = d i; owes = e i; left = f i }

pub legal_in : (r q : Running) (e : Event) → r ≡ q → is_legal (net_of q.tasks) q.now e ≡ true → is_legal (net_of r.tasks) r.now e ≡ true
legal_in r q e same h = subst (λ (x : Running). is_legal (net_of x.tasks) x.now e ≡ true) (sym same) h

pub stored_after : (c d : Inside) (e : Event) → IsStored c → is_legal (net_of c.seen.value.tasks) (now_of c) e ≡ true → SameRoom c d
    → now_of d ≡ after (net_of c.seen.value.tasks) (now_of c) e → IsStored d
stored_after c d e i legal same is =
    let s = valid_after (net_of c.seen.value.tasks) (is_net c.seen.value.tasks i.graph) c.workers (now_of c) e i.valid legal in
    record {
      graph = subst (λ (g : Tasks). IsGraph g) (sym same.tasks) i.graph;
      valid = subst (λ (g : Tasks). IsValid (net_of g) d.workers (now_of d)) (sym same.tasks)
          (subst (λ (n : Now). IsValid (net_of c.seen.value.tasks) d.workers n) (sym is)
          (subst (λ w. IsValid (net_of c.seen.value.tasks) w (after (net_of c.seen.value.tasks) (now_of c) e)) (sym same.workers) s));
      some_worker = subst (λ w. 0 < w) (sym same.workers) i.some_worker;
      tasks_fit = let f = i.tasks_fit in let a = ap task_count same.tasks in let b = same.room_tasks in omega arith;
      edges_fit = let f = i.edges_fit in let a = ap edges_of same.tasks in let b = same.room_edges in omega arith;
      counts_room = let f = i.counts_room in let a = same.counts in let b = same.room_tasks in omega arith;
      done_room = let f = i.done_room in let a = same.done in let b = same.room_tasks in omega arith;
      deques_room = λ w h. let f = i.deques_room w (subst (λ k. w < k) same.workers h) in let a = ap (λ l. get_or l w 0) same.deques in
          let b = same.room_tasks in omega arith;
      owed_room = λ w h. let f = i.owed_room w (subst (λ k. w < k) same.workers h) in let a = ap (λ l. get_or l w 0) same.owes in
          let b = same.room_edges in omega arith;
    }

pub running_after : (c : Inside) (r : Running) (e : Event) (s : Now) → running_of c ≡ r → s ≡ after (net_of c.seen.value.tasks) (now_of c) e
    → record (running_of c) { now = s } ≡ record r { now = after (net_of r.tasks) r.now e }
running_after c r e s view is = ap (λ (n : Now). record (running_of c) { now = n }) is
    ∙ ap (λ (x : Running). record x { now = after (net_of x.tasks) x.now e }) view

-- the state after an arrival, of what the code found: the reader, and its count
pub arrived : (c : Inside) (g : Tasks) (w e r k : ℕ) (ds os : List (List ℕ)) → c.seen.value.tasks ≡ g → r ≡ reader_of g e → k ≡ count_of (now_of c) r
    → ds ≡ set (now_of c).deques w (joined r (k - 1) (deque_of (now_of c) w)) → os ≡ set (now_of c).owes w (without e (owes_of (now_of c) w))
    → record (now_of c) { counts = set c.counts.items r (k - 1); deques = ds; owes = os } ≡ after (net_of c.seen.value.tasks) (now_of c) (Arrive w e)
arrived c g w e r k ds os same q read d o =
    let s = now_of c in
    let n = reader_of c.seen.value.tasks e in
    let there : r ≡ n = q ∙ ap (λ (x : Tasks). reader_of x e) (sym same) in
    let less : k - 1 ≡ count_of s n - 1 = ap (λ m. m - 1) (read ∙ ap (count_of s) there) in
    same_now _ _ (ap (λ m. set s.counts m (k - 1)) there ∙ ap (set s.counts n) less) refl
    (d ∙ ap (λ m. set s.deques w (joined m (k - 1) (deque_of s w))) there ∙ ap (λ m. set s.deques w (joined n m (deque_of s w))) less) refl o refl

-- a core that begins with these tasks: its state is the opening one, and there is room for what comes
pub record Begins (d : Inside) (g : Tasks) : Type 0 where
  pub graph : IsGraph g
  pub some : 0 < d.workers
  pub seen : d.seen.value.tasks ≡ g
  pub state : now_of d ≡ opening (net_of g) d.workers
  pub tasks : task_count g ≤ d.room_tasks
  pub edges : edges_of g ≤ d.room_edges
  pub counts : d.room_tasks ≤ vec_capacity d.counts
  pub done : d.room_tasks ≤ vec_capacity d.done
  pub deques : (w : ℕ) → w < d.workers → d.room_tasks ≤ get_or (rooms_of d.deques.items) w 0
  pub owes : (w : ℕ) → w < d.workers → d.room_edges ≤ get_or (owed_rooms d.owes.items) w 0

pub stored_open : (d : Inside) (g : Tasks) → Begins d g → IsStored d
stored_open d g b = record {
  graph = subst (λ (x : Tasks). IsGraph x) (sym b.seen) b.graph;
  valid = subst (λ (x : Tasks). IsValid (net_of x) d.workers (now_of d)) (sym b.seen)
      (subst (λ (s : Now). IsValid (net_of g) d.workers s) (sym b.state)
      (valid_now (net_of g) d.workers (λ _. 0) (λ _. 0) 0 (opening (net_of g) d.workers) (opens (net_of g) d.workers b.some)));
  some_worker = b.some;
  tasks_fit = let q = ap task_count b.seen in let t = b.tasks in omega arith;
  edges_fit = let q = ap edges_of b.seen in let e = b.edges in omega arith;
  counts_room = b.counts;
  done_room = b.done;
  deques_room = b.deques;
  owed_room = b.owes;
}

abbrev pub running_with : Tasks → ℕ → ℕ → ℕ → Now → Running
running_with g workers tasks edges s = record { tasks = g; workers = workers; room_tasks = tasks; room_edges = edges; now = s }

-- what it means, by its parts
pub running_open : (g h : Tasks) (v w a b c d : ℕ) (s : Now) → h ≡ g → v ≡ w → a ≡ b → c ≡ d → s ≡ opening (net_of g) w
    → running_with h v a c s ≡ running_with g w b d (opening (net_of g) w)
running_open g h v w a b c d s seen same tasks edges is =
    λ i. record { tasks = seen i; workers = same i; room_tasks = tasks i; room_edges = edges i; now = is i }

-- the opening state, by its parts
pub opened : (g : Tasks) (workers : ℕ) (counts : List ℕ) (done : List Bool) (deques : List (List ℕ)) (runs : List (Option ℕ)) (owes : List (List ℕ))
    (left : List Bool)
    → counts ≡ map (need_count (net_of g)) (numbers (task_count g)) → done ≡ replicate (task_count g) false
    → deques ≡ dealt workers 0 (ready (net_of g)) (replicate workers [])
    → runs ≡ replicate workers None → owes ≡ replicate workers [] → left ≡ replicate workers false
    → record { counts = counts; done = done; deques = deques; runs = runs; owes = owes; left = left } ≡ opening (net_of g) workers
opened g workers counts done deques runs owes left a b c d e f = λ i. record { counts = a i; done = b i; deques = c i; runs = d i; owes = e i; left = f i }
