-- A worker after a turn.
use Rattle.std.proofs.Common.{◌≡◌, ℕ, ◌+◌, ◌<◌, ◌≤◌, List, [], ◌∷◌, ◌++◌, refl, sym, ap, ◌∙◌, subst, arith, true, false, Option, None}
use Rattle.std.proofs.Common.{MatchOption, vec_capacity}
use mathlib.Core.Logic.{dite}
use native.Mathlib.Decide.{ℕ_discrete}
use Rattle.atomic_table.specs.Seated.{TableId}
use Rattle.fv_outside.specs.headline.Tasks.{Tasks}
use Rattle.fv_outside.specs.Tasks.{times, task_count}
use Rattle.fv_outside.specs.declared.gate.Line.{Line}
use Rattle.fv_graph.specs.Graph.{net_of, task_of}
use Rattle.fv_graph.specs.Wires.{IsWires, wires_of}
use Rattle.fv_graph.proofs.lemmas.Counts.{bit_same, bit_apart}
use Rattle.fv_graph.specs.Core.{opening, deque_of}
use Rattle.fv_ready.specs.declared.view.Deed.TheVariants.{Stamped, Claimed}
use Rattle.fv_ready.specs.declared.view.About.{About}
use Rattle.fv_ready.specs.declared.view.View.{View}
use Rattle.fv_ready.specs.Wired.{graph_wires}
use Rattle.fv_ready.specs.Rule.{done_by, noted, wins, finishes, places}
use Rattle.fv_ready.specs.Carried.{IsFree, IsBusy}
use Rattle.fv_ready.specs.declared.seat.InHand.{InHand}
use Rattle.fv_ready.specs.declared.seat.WorkerSeat.{WorkerSeat}
use Rattle.fv_ready.specs.Seats.{view_of, slots_of, hand_of, IsSeat}
use Rattle.fv_steal.specs.Deques.{account_of}
use Rattle.fv_steal.specs.declared.worker.Worker.{Worker}
use Rattle.fv_steal.specs.inner.Steps.{PutBetween}
use Rattle.std.specs.Global.{Vec}
use Rattle.fv_steal.specs.declared.handles.TaskDeque.{TaskDeque}
use Rattle.fv_ready.specs.Whole.{starts_at, finishes_at}
use Rattle.fv_steal.specs.Crews.{did, lines_of, IsWorker, IsJournalOf}
use Rattle.fv_steal.proofs.Turning.{IsTurn, wins_more, put_after, none_owed, journal_more, stays}

no_places : {S : Type 0} (c : List (ℕ × S)) → ((e : ℕ) → times e (places c) ≡ 0) → c ≡ []
no_places [] h = refl
no_places (x ∷ xs) h = let z = h x.0 in let o = bit_same x.0 x.0 refl in absurd (omega arith)

module _ {C Key : Type 0} (edge_of : C → ℕ) (key_of : C → Key) (id : TableId) (a : About C) where
  abbrev pub g : Tasks
  g = a.tasks.value.tasks

  -- a seat with nothing in hand
  pub idle : (s : WorkerSeat C) → IsSeat edge_of key_of id a s → hand_of s ≡ None → IsFree graph_wires edge_of key_of a (view_of s) (slots_of s)
  idle s h none = subst (λ (o : Option InHand). MatchOption o (IsFree graph_wires edge_of key_of a (view_of s) (slots_of s))
      (λ r. IsBusy graph_wires edge_of key_of a r.task r.started (view_of s) (slots_of s))) none h.hand

  -- what a turn left after
  pub record IsAfter (t s f : ℕ) (saw : View C) (line : Line) (old new : Worker C) : Type 0 where
    pub turn : IsTurn g t s f (did old) saw (did new)
    pub seat : IsSeat edge_of key_of id a new.seat
    pub hand : hand_of new.seat ≡ None
    pub numbers : (did new).numbers ≡ (did old).numbers
    pub number : new.number ≡ old.number
    pub won : done_by (wins t) (did old) ≡ 0
    pub between : PutBetween (net_of g) (noted (noted (noted saw (Claimed t true)) (Stamped s t true)) (Stamped f t false)) (did new)
        (account_of old.deque).put (account_of new.deque).put
    pub lines : lines_of new ≡ lines_of old ++ line ∷ []
    pub stamps : (line.start ≡ s) × (line.finish ≡ f) × (s < f)
    pub task : line.task ≡ task_of g t
    pub inside : (line.task.loop_no < g.loops) × (line.task.vector < g.vectors)
    pub who : line.worker ≡ old.number
    pub room : new.deque.room ≡ old.deque.room
    pub lines_room : vec_capacity old.lines ≤ vec_capacity new.lines
    pub parcels_room : vec_capacity old.parcels ≤ vec_capacity new.parcels
    pub no_parcels : new.parcels.items ≡ []

  module _ (t s f : ℕ) (saw : View C) (line : Line) (old new : Worker C) (ws : IsWires (wires_of g)) (there : t < task_count g)
      (h : IsWorker edge_of key_of id a old) (k : IsAfter t s f saw line old new) where
    none_left : slots_of new.seat ≡ []
    none_left =
        let o = idle old.seat h.seat h.free.0 in let i = idle new.seat k.seat k.hand in
        let fin : done_by (finishes t) (did old) ≡ 0 = o.finished t ∙ k.won in
        no_places (slots_of new.seat) (none_owed g t s f (did old) saw (did new) k.turn ws there fin
        (λ e. let p = o.owed e in let z : times e (places (slots_of old.seat)) ≡ 0 = ap (λ (l : List (ℕ × Option C)). times e (places l)) h.free.1 in
        omega arith)
        (places (slots_of new.seat)) (λ e. i.owed e))

    pub worker_after : IsWorker edge_of key_of id a new
    worker_after = record {
      seat = k.seat;
      free = (k.hand, none_left);
      number = k.numbers ∙ h.number ∙ ap (λ n. n ∷ []) (sym k.number);
      put = λ x. put_after g t s f (did old) saw (did new) k.turn (account_of old.deque).put (account_of new.deque).put
          (deque_of (opening (net_of g) a.workers) old.number) h.put k.between x
          ∙ ap (λ n. times x (deque_of (opening (net_of g) a.workers) n) + done_by (Rattle.fv_ready.specs.Rule.zeroes (net_of g) x) (did new))
          (sym k.number);
      once = λ x. let w = wins_more g t s f (did old) saw (did new) k.turn x in let o = h.once x in
          dite (ℕ_discrete t x) (λ e. let b = bit_same t x e in let z : done_by (wins x) (did old) ≡ 0 = ap (λ j. done_by (wins j) (did old)) (sym e)
          ∙ k.won in omega arith)
          (λ ne. let b = bit_apart t x ne in omega arith);
      within = λ x l. let w = wins_more g t s f (did old) saw (did new) k.turn x in let o = h.within x l in let b = bit_apart t x (λ e. omega arith) in
          omega arith;
      journal = subst (λ l. Rattle.fv_steal.specs.Crews.IsJournalOf g new.number (did new) l) (sym k.lines)
          (subst (λ n. Rattle.fv_steal.specs.Crews.IsJournalOf g n (did new) (lines_of old ++ line ∷ [])) (sym k.number)
          (journal_more g old.number t (did old) saw (did new) (lines_of old) line
          (subst (λ (p : ℕ × ℕ). IsTurn g t p.0 p.1 (did old) saw (did new)) (λ i. (sym k.stamps.0 i, sym k.stamps.1 i)) k.turn)
          k.task k.who (let x = k.stamps.0 in let y = k.stamps.1 in let z = k.stamps.2 in omega arith) k.inside h.journal));
      deque_room = k.room ∙ h.deque_room;
      lines_room = let r = h.lines_room in let l = k.lines_room in omega arith;
      parcels_room = λ x l. let r = h.parcels_room x l in let p = k.parcels_room in let r0 = r.0 in let r1 = r.1 in (omega arith, omega arith);
      no_parcels = k.no_parcels;
    }

  -- the same of a turn in which the task was lost, or of looks alone
  pub record IsLost (old new : Worker C) : Type 0 where
    pub same : (p : Rattle.fv_ready.specs.declared.view.Deed.Deed → ℕ) → ((u c : ℕ) → p (Rattle.fv_ready.specs.declared.view.Deed.TheVariants.Saw u c) ≡ 0)
        → ((u : ℕ) → p (Claimed u false) ≡ 0) → done_by p (did new) ≡ done_by p (did old)
    pub seat : IsSeat edge_of key_of id a new.seat
    pub free : (hand_of new.seat ≡ None) × (slots_of new.seat ≡ [])
    pub numbers : (did new).numbers ≡ (did old).numbers
    pub rest : (new.number ≡ old.number) × (new.deque ≡ old.deque) × (new.lines ≡ old.lines) × (new.parcels ≡ old.parcels)

  module _ (old new : Worker C) (h : IsWorker edge_of key_of id a old) (k : IsLost old new) where
    pub worker_lost : IsWorker edge_of key_of id a new
    worker_lost = record {
      seat = k.seat;
      free = k.free;
      number = k.numbers ∙ h.number ∙ ap (λ n. n ∷ []) (sym k.rest.0);
      put = λ x. let z = k.same (Rattle.fv_ready.specs.Rule.zeroes (net_of g) x) (λ u c. refl) (λ u. refl) in
          let p = ap (λ d. times x (account_of d).put) k.rest.1 in let o = h.put x in
          let n = ap (λ n. times x (deque_of (opening (net_of g) a.workers) n)) k.rest.0 in omega arith;
      once = λ x. let w = k.same (wins x) (λ u c. refl) (λ u. refl) in let o = h.once x in omega arith;
      within = λ x l. let w = k.same (wins x) (λ u c. refl) (λ u. refl) in let o = h.within x l in omega arith;
      journal = subst (λ (p : ℕ × List Line). IsJournalOf g p.0 (did new) p.1) (λ i. (sym k.rest.0 i, sym (ap (λ (l : Vec Line). l.items) k.rest.2) i))
          (record {
            each = λ x. let w = k.same (wins x) (λ u c. refl) (λ u. refl) in let o = h.journal.each x in omega arith;
            stamps = λ n. let w = k.same (Rattle.fv_ready.specs.Rule.stamps n) (λ u c. refl) (λ u. refl) in let o = h.journal.stamps n in omega arith;
            each_line = stays g old.number (did old) (did new)
                (λ m x. let w = k.same (starts_at m x) (λ u c. refl) (λ u. refl) in omega arith)
                (λ m x. let w = k.same (finishes_at m x) (λ u c. refl) (λ u. refl) in omega arith) (lines_of old) h.journal.each_line;
          });
      deque_room = ap (λ (d : TaskDeque). d.room) k.rest.1 ∙ h.deque_room;
      lines_room = let r = h.lines_room in let l = ap (λ (v : Vec Line). vec_capacity v) k.rest.2 in omega arith;
      parcels_room = λ x l. let r = h.parcels_room x l in let p = ap (λ (v : Vec C). vec_capacity v) k.rest.3 in let r0 = r.0 in let r1 = r.1 in
          (omega arith, omega arith);
      no_parcels = ap (λ (v : Vec C). v.items) k.rest.3 ∙ h.no_parcels;
    }
