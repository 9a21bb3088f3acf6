-- The steps of a turn, by what each call tells.
use Rattle.std.proofs.Common.{◌≡◌, ℕ, ◌+◌, ◌<◌, List, [], ◌∷◌, ◌++◌, refl, sym, ap, ◌∙◌, subst, arith, ◌==◌, ◌&&◌, ltb, Bool, true, false, Option, Some}
use Rattle.std.proofs.Common.{None, MatchBool, MatchOption, vec_capacity, mod-lt}
use Rattle.std.specs.Global.{Vec}
use Rattle.fv_outside.specs.headline.Tasks.{Tasks, bit, total}
use Rattle.fv_outside.specs.Tasks.{times, task_count}
use Rattle.fv_outside.specs.declared.gate.Line.{Line}
use Rattle.fv_outside.specs.declared.tasks.Task.{Task}
use Rattle.fv_graph.specs.Graph.{Graph, IsGraph, net_of, feeds_of, task_of}
use Rattle.fv_graph.proofs.lemmas.Ranges.{quotient_small}
use Rattle.fv_graph.specs.Wires.{IsWires, wires_of}
use Rattle.fv_graph.proofs.lemmas.Counts.{bit_same, bit_left, bit_right, total_append}
use Rattle.fv_ready.specs.declared.view.Deed.{Deed}
use Rattle.fv_ready.specs.declared.view.Deed.TheVariants.{Stamped, Saw, Claimed}
use Rattle.fv_ready.specs.declared.view.View.{View}
use Rattle.fv_ready.specs.Rule.{done_by, noted, wins, claims, arrives, finishes, zeroes}
use Rattle.fv_ready.proofs.lemmas.Hands.{done_noted}
use Rattle.fv_ready.specs.declared.board.Board.{Board}
use Rattle.fv_ready.specs.declared.seat.WorkerSeat.{WorkerSeat}
use Rattle.fv_ready.specs.Seats.{view_of, slots_of, hand_of}
use Rattle.fv_ready.specs.Boards.{about_of, graph_of, IsSeatOf}
use Rattle.fv_ready.proofs.lemmas.Seated.{busy_of}
use Rattle.fv_steal.specs.declared.rule.Account.{Account}
use Rattle.fv_steal.specs.declared.handles.TaskDeque.{TaskDeque}
use Rattle.fv_steal.specs.Deques.{account_of, room_of, lies_at, taken_by}
use Rattle.fv_steal.specs.declared.worker.Worker.{Worker}
use Rattle.fv_steal.specs.inner.Steps.{Looked}
use Rattle.fv_steal.specs.Crews.{did, took, IsWorkerOf, IsJournalOf, IsSame}
use Rattle.fv_steal.specs.inner.Gathers.{Keeps}
use Rattle.fv_steal.specs.inner.Turns.{HasTurned}
use Rattle.fv_steal.proofs.Edges.{is_fed}

pub if_true : (b : Bool) (P Q : Type 0) → b ≡ true → MatchBool b P Q → P
if_true b P Q e m = subst (λ k. MatchBool k P Q) e m

pub if_false : (b : Bool) (P Q : Type 0) → b ≡ false → MatchBool b P Q → Q
if_false b P Q e m = subst (λ k. MatchBool k P Q) e m

-- the claim, after looks
pub claimed_on : {C : Type 0} (old saw new : View C) (t : ℕ) (r : Bool) → Looked old saw → new ≡ noted saw (Claimed t r)
    → (p : Deed → ℕ) → ((u c : ℕ) → p (Saw u c) ≡ 0) → done_by p new ≡ done_by p old + p (Claimed t r)
claimed_on old saw new t r looked is p none = let l = looked p none in let a = ap (λ (u : View _). done_by p u) is ∙ done_noted p saw (Claimed t r) in
    omega arith

-- both stamps
pub stamped_on : {C : Type 0} (v w : View C) (t s f : ℕ) → w ≡ noted (noted v (Stamped s t true)) (Stamped f t false)
    → (p : Deed → ℕ) → done_by p w ≡ done_by p v + p (Stamped s t true) + p (Stamped f t false)
stamped_on v w t s f is p = let a = ap (λ (u : View _). done_by p u) is ∙ done_noted p (noted v (Stamped s t true)) (Stamped f t false) in
    let b = done_noted p v (Stamped s t true) in omega arith

module _ {C Key : Type 0} (edge_of : C → ℕ) (key_of : C → Key) (b : Board C Key) (tasks : Graph) (is : graph_of b ≡ tasks) where
  -- the board's tasks, as it was told of them
  pub told_is : (about_of b).tasks.value ≡ tasks
  told_is = b.told ∙ is

  module _ (old saw : View C) (t : ℕ) (seat : WorkerSeat C) (r : Bool) (won : r ≡ true) (h : IsSeatOf edge_of key_of b seat)
      (hand : MatchBool r (hand_of seat ≡ Some record { task = t; started = false }) (hand_of seat ≡ None))
      (looked : Looked old saw) (list : view_of seat ≡ noted saw (Claimed t r)) where
    pub fresh_win : done_by (wins t) old ≡ 0
    fresh_win = let k = busy_of edge_of key_of b seat h (record { task = t; started = false }) (if_true r _ _ won hand) in
        let f = k.finished t in let u = k.unfinished in let o = bit_same t t refl in
        let c = claimed_on old saw (view_of seat) t r looked list (wins t) (λ u c. refl) in
        let q : bit (r && (t == t)) ≡ 1 = bit_left r (t == t) won ∙ o in omega arith

    -- no edge out of the task has arrived
    pub none_came : IsWires (wires_of tasks.tasks) → t < task_count tasks.tasks → (e : ℕ) → 0 < times e (feeds_of tasks.tasks t)
        → done_by (arrives e) (view_of seat) ≡ 0
    none_came ws there e among =
        let k = busy_of edge_of key_of b seat h (record { task = t; started = false }) (if_true r _ _ won hand) in
        let f = is_fed tasks.tasks ws t there e among in
        k.arrived e ∙ subst (λ (g : Graph). bit ((net_of g.tasks).is_inner e && ltb 0 (done_by (finishes ((net_of g.tasks).source e)) (view_of seat))) ≡ 0)
        (sym told_is)
        (bit_right ((net_of tasks.tasks).is_inner e) (ltb 0 (done_by (finishes ((net_of tasks.tasks).source e)) (view_of seat)))
        (ap (λ x. bit (ltb 0 x)) (ap (λ x. done_by (finishes x) (view_of seat)) f.source ∙ k.unfinished)))

-- a worker that found a number
module _ {C Key : Type 0} (edge_of : C → ℕ) (key_of : C → Key) (b : Board C Key) (old new : Worker C) (h : IsWorkerOf edge_of key_of b old)
    (keeps : Keeps old new) where
  seat : new.seat ≡ old.seat
  seat = keeps.rest.0

  number : new.number ≡ old.number
  number = keeps.rest.1

  lines : new.lines ≡ old.lines
  lines = keeps.rest.2

  parcels : new.parcels ≡ old.parcels
  parcels = keeps.rest.3

  pub worker_found : IsWorkerOf edge_of key_of b new
  worker_found = record {
    seat = subst (λ s. IsSeatOf edge_of key_of b s) (sym seat) h.seat;
    free = (ap hand_of seat ∙ h.free.0, ap slots_of seat ∙ h.free.1);
    number = ap (λ s. (view_of s).numbers) seat ∙ h.number ∙ ap (λ n. n ∷ []) (sym number);
    put = λ x. ap (times x) keeps.put ∙ h.put x ∙ (λ i. times x (Rattle.fv_graph.specs.Core.deque_of (Rattle.fv_graph.specs.Core.opening (net_of
        (about_of b).tasks.value.tasks) (about_of b).workers) (sym number i))
        + done_by (zeroes (net_of (about_of b).tasks.value.tasks) x) (view_of (sym seat i)));
    once = λ x. let o = h.once x in let q = ap (λ s. done_by (wins x) (view_of s)) seat in omega arith;
    within = λ x l. ap (λ s. done_by (wins x) (view_of s)) seat ∙ h.within x l;
    journal = subst (λ (p : (ℕ × View C) × List Line). IsJournalOf (about_of b).tasks.value.tasks p.0.0 p.0.1 p.1)
        (λ i. ((sym number i, view_of (sym seat i)), (sym lines i).items)) h.journal;
    deque_room = keeps.room ∙ h.deque_room;
    lines_room = let r = h.lines_room in let l = ap (λ (v : Vec Line). vec_capacity v) lines in omega arith;
    parcels_room = λ x l. let r = h.parcels_room x l in let p = ap (λ (v : Vec C). vec_capacity v) parcels in let r0 = r.0 in let r1 = r.1 in
        (omega arith, omega arith);
    no_parcels = ap (λ (v : Vec C). v.items) parcels ∙ h.no_parcels;
  }

-- what a pop took
pub popped : {C : Type 0} (r : Option ℕ) (old : Worker C) (d : TaskDeque) (N : Type 0)
    → MatchOption r ((account_of d ≡ account_of old.deque) × N)
    (λ x. account_of d ≡ Rattle.fv_steal.specs.Balance.account true (account_of old.deque).lent (account_of old.deque).held (account_of old.deque).put
    ((account_of old.deque).taken ++ x ∷ []))
    → MatchOption r ((x : ℕ) → times x (account_of d).taken + total (λ v. times x (taken_by v)) old.victims.items ≡ took old x)
    (λ t. (x : ℕ) → times x (account_of d).taken + total (λ v. times x (taken_by v)) old.victims.items ≡ took old x + bit (t == x))
popped None old d N h = λ x. let p = ap (λ (a : Account). times x a.taken) h.0 in omega arith
popped (Some t) old d N h = λ x. let p = ap (λ (a : Account). times x a.taken) h in
    let q = total_append (λ y. bit (y == x)) (account_of old.deque).taken (t ∷ []) in omega arith

-- where a task stands
pub inside_of : (g : Tasks) → IsGraph g → (t : ℕ) → t < task_count g → (k : Task) → k ≡ task_of g t → (k.loop_no < g.loops) × (k.vector < g.vectors)
inside_of g graph t there k q = subst (λ (k : Task). (k.loop_no < g.loops) × (k.vector < g.vectors)) (sym q)
    (mod-lt t graph.some_loop, quotient_small t g.vectors g.loops there)

-- what a pop leaves as it was
pub popped_keeps : {C : Type 0} (r : Option ℕ) (old : Worker C) (d : TaskDeque) (N : Type 0)
    → room_of d ≡ room_of old.deque → lies_at d ≡ lies_at old.deque
    → MatchOption r ((account_of d ≡ account_of old.deque) × N)
    (λ x. account_of d ≡ Rattle.fv_steal.specs.Balance.account true (account_of old.deque).lent (account_of old.deque).held (account_of old.deque).put
    ((account_of old.deque).taken ++ x ∷ []))
    → Keeps old (record old { deque = d }) × IsSame old (record old { deque = d })
popped_keeps None old d N room place h = (
  record { put = ap (λ (a : Account). a.put) h.0; room = room; place = place; rest = (refl, refl, refl, refl) },
  record { number = refl; place = place; lent = ap (λ (a : Account). a.lent) h.0; holds = refl },
)
popped_keeps (Some t) old d N room place h = (
  record { put = ap (λ (a : Account). a.put) h; room = room; place = place; rest = (refl, refl, refl, refl) },
  record { number = refl; place = place; lent = ap (λ (a : Account). a.lent) h; holds = refl },
)

pub same_then : {C : Type 0} (x y z : Worker C) → IsSame x y → IsSame y z → IsSame x z
same_then x y z h k = record { number = k.number ∙ h.number; place = k.place ∙ h.place; lent = k.lent ∙ h.lent; holds = k.holds ∙ h.holds }

module _ {C Key : Type 0} (edge_of : C → ℕ) (key_of : C → Key) (b : Board C Key) (g : Tasks) where
  -- before the first turn
  pub not_turned : (w : Worker C) → IsWorkerOf edge_of key_of b w → HasTurned edge_of key_of b g w w
  not_turned w h = record { worker = h; same = record { number = refl; place = refl; lent = refl; holds = refl }; even = λ x l. refl }

  -- a worker that looked for a number once more
  module _ (first old new : Worker C) (h : HasTurned edge_of key_of b g first old) (keeps : Keeps old new) (same : IsSame old new) where
    same_did : (x : ℕ) → done_by (claims x) (did new) ≡ done_by (claims x) (did old)
    same_did x = ap (λ s. done_by (claims x) (view_of s)) keeps.rest.0

    -- it found none
    pub found_none : ((x : ℕ) → took new x ≡ took old x) → HasTurned edge_of key_of b g first new
    found_none none = record {
      worker = worker_found edge_of key_of b old new h.worker keeps;
      same = same_then first old new h.same same;
      even = λ x l. let e = h.even x l in let d = same_did x in let n = none x in omega arith;
    }

    -- it found one and ran it
    pub found_one : (t : ℕ) (last : Worker C) → ((x : ℕ) → took new x ≡ took old x + bit (t == x)) → IsWorkerOf edge_of key_of b last → IsSame new last
        → ((x : ℕ) → took last x ≡ took new x)
        → ((x : ℕ) → x < task_count g → done_by (claims x) (did last) ≡ done_by (claims x) (did new) + bit (t == x))
        → HasTurned edge_of key_of b g first last
    found_one t last one worker stays took_it claimed = record {
      worker = worker;
      same = same_then first new last (same_then first old new h.same same) stays;
      even = λ x l. let e = h.even x l in let d = same_did x in let o = one x in let t = took_it x in let c = claimed x l in omega arith;
    }
