-- What a legal event finds in a valid state: its numbers are in range, and there is room for what it adds.
use Rattle.std.proofs.Common.{◌≡◌, ℕ, ◌+◌, ◌<◌, ◌≤◌, true, ◌&&◌, ◌||◌, not, [], ◌++◌, length, get_or, refl, ap, ◌∙◌}
use Rattle.std.proofs.Common.{subst, arith, ltb, ltb-true, ◌==◌, length-append, get_or-set_same}
use mathlib.Core.Logic.{dite}
use native.Mathlib.Decide.{dec_le}
use Rattle.fv_graph.specs.Tasks.{Tasks, total}
use Rattle.fv_graph.specs.TasksBeside.{times, task_count}
use Rattle.fv_graph.specs.Net.{Net, IsNet}
use Rattle.fv_graph.specs.Graph.{edges_of, net_of, reader_of, feeds_of}
use Rattle.fv_graph.specs.Wires.{wires_of}
use Rattle.fv_graph.proofs.lemmas.Counts.{bit_le, bit_same, bit_left, both_true, bit_true, total_at, spare, either_left}
use Rattle.fv_graph.proofs.lemmas.Graphs.{is_wires, is_net}
use Rattle.fv_graph.specs.Core.{Now, is_run, deque_of, run_of, owes_of, is_done, count_of, is_legal, after}
use Rattle.fv_graph.specs.declared.event.Event.TheVariants.{Finish, Arrive}
use Rattle.fv_graph.specs.Valid.{IsValid, arrived_of, took_of, amount_of}
use Rattle.std.specs.Vec.{vec_len}
use Rattle.fv_graph.specs.Kept.{rooms_of, owed_rooms}
use Rattle.fv_graph.specs.Running.{Running}
use Rattle.fv_graph.specs.Stored.{now_of, running_of, IsStored}
use Rattle.fv_graph.specs.declared.task_core.Core.TheInside.{Inside}
use Rattle.fv_graph.proofs.Keeps.{legal_in}
use Rattle.fv_graph.proofs.Valid.{owed, most, ran}
use Rattle.fv_graph.proofs.Law.{is_run_of, some_of}
use Rattle.fv_graph.proofs.Stepping.{valid_after}
use Rattle.fv_graph.proofs.lemmas.Few.{few, deque_room}

-- the lists of what is owed hold inner edges, each once
owed_few : (n : Net) (workers edges : ℕ) (s : Now) → IsValid n workers s → ((e : ℕ) → n.is_inner e ≡ true → e < edges) → (w : ℕ) → w < workers
    → length (owes_of s w) ≤ edges
owed_few n workers edges s i low w h =
    let there : w < length s.owes = let l = i.owes_long in omega arith in
    let one : (e : ℕ) → times e (owes_of s w) ≤ total (times e) s.owes = λ e. total_at (times e) s.owes w [] there in
    few edges (owes_of s w)
    (λ e. let o = one e in let p = i.edges e in let b = bit_le (n.is_inner e && is_done s (n.source e)) in omega arith)
    (λ e out. dite (dec_le (times e (owes_of s w)) 0) (λ l. omega arith)
    (λ l. let o = one e in let p = i.edges e in
    let b = both_true (n.is_inner e) (is_done s (n.source e)) (bit_true (n.is_inner e && is_done s (n.source e)) (omega arith)) in
    let k = low e b.0 in absurd (omega arith)))

-- of a stored core and the tasks that a call is handed
pub record Arrives (c : Inside) (g : Tasks) (w e : ℕ) : Type 0 where
  pub same : c.seen.value.tasks ≡ g
  pub worker : w < c.workers
  pub edge : e < edges_of g
  pub reader : reader_of g e < vec_len c.counts
  pub count : 0 < count_of (now_of c) (reader_of g e)
  pub room : length (deque_of (now_of c) w) < get_or (rooms_of c.deques.items) w 0

pub record Finishes (c : Inside) (g : Tasks) (w t : ℕ) : Type 0 where
  pub same : c.seen.value.tasks ≡ g
  pub worker : w < c.workers
  pub task : t < vec_len c.done
  pub there : t < task_count g
  pub room : length (owes_of (now_of c) w) + length (feeds_of g t) ≤ get_or (owed_rooms c.owes.items) w 0

module _ {c : Inside} {r : Running} {g : Tasks} (i : IsStored c) (view : running_of c ≡ r) (handed : r.tasks ≡ g) where
  same_tasks : c.seen.value.tasks ≡ g
  same_tasks = ap (λ (x : Running). x.tasks) view ∙ handed

  net : IsNet (net_of c.seen.value.tasks)
  net = is_net c.seen.value.tasks i.graph

  inner_below : (e : ℕ) → (net_of c.seen.value.tasks).is_inner e ≡ true → e < edges_of c.seen.value.tasks
  inner_below e h = let w = wires_of c.seen.value.tasks in
      (is_wires c.seen.value.tasks i.graph).in_range e
      (either_left (w.net.is_inner e || w.is_entry e) (w.is_exit e) (either_left (w.net.is_inner e) (w.is_entry e) h))

  pub arrives : (w e : ℕ) → is_legal (net_of r.tasks) r.now (Arrive w e) ≡ true → Arrives c g w e
  arrives w e legal =
      let n = net_of c.seen.value.tasks in let s = now_of c in let h = i.valid in
      let a = both_true (ltb w (length s.runs)) (not (times e (owes_of s w) == 0)) (legal_in (running_of c) r (Arrive w e) view legal) in
      let hw : w < c.workers = subst (λ k. w < k) h.runs_long (ltb-true w (length s.runs) a.0) in
      let some = some_of (times e (owes_of s w)) a.1 in
      let known = owed n c.workers (arrived_of n s) (took_of s) (amount_of s) s h w e (let l = h.owes_long in omega arith) some in
      let x = n.reader e in
      let there = (net.rises e known.0).1 in
      let once : times e (n.needs x) ≡ 1 = net.needs_once x e there ∙ bit_left (n.is_inner e) (x == x) known.0 ∙ bit_same x x refl in
      let high : 0 < count_of s x = let sp = spare (arrived_of n s) (most n c.workers (arrived_of n s) (took_of s) (amount_of s) s h) e known.1
      (n.needs x) in let p = h.counted x there in omega arith in
      let q = ap (λ (k : Tasks). reader_of k e) same_tasks in
      record {
        same = same_tasks;
        worker = hw;
        edge = let b = inner_below e known.0 in let k = ap edges_of same_tasks in omega arith;
        reader = let l = h.counts_long in let o = c.counts.ok.0 in omega arith;
        count = subst (λ k. 0 < count_of s k) q high;
        room = let d = deque_room n c.workers s h w x hw there high in let k = i.deques_room w hw in let f = i.tasks_fit in omega arith;
      }

  pub finishes : (w t : ℕ) → is_legal (net_of r.tasks) r.now (Finish w t) ≡ true → Finishes c g w t
  finishes w t legal =
      let n = net_of c.seen.value.tasks in let s = now_of c in let h = i.valid in
      let own_legal = legal_in (running_of c) r (Finish w t) view legal in
      let a = both_true (ltb w (length s.runs)) (is_run t (run_of s w)) own_legal in
      let hw : w < c.workers = subst (λ k. w < k) h.runs_long (ltb-true w (length s.runs) a.0) in
      let there = ran n c.workers (arrived_of n s) (took_of s) (amount_of s) s h w t (let l = h.runs_long in omega arith) (is_run_of t (run_of s w) a.1) in
      let few_left = owed_few n c.workers (edges_of c.seen.value.tasks) (after n s (Finish w t))
      (valid_after n net c.workers s (Finish w t) h own_legal) inner_below w hw in
      let same = ap length (get_or-set_same s.owes w (owes_of s w ++ n.feeds t) [] (let l = h.owes_long in omega arith)) in
      let long = length-append (owes_of s w) (n.feeds t) in
      let q = ap (λ (k : Tasks). length (feeds_of k t)) same_tasks in
      record {
        same = same_tasks;
        worker = hw;
        task = let l = h.done_long in let o = c.done.ok.0 in omega arith;
        there = let k = ap task_count same_tasks in omega arith;
        room = let k = i.owed_room w hw in let f = i.edges_fit in omega arith;
      }
