use Rattle.std.proofs.Common.{◌≡◌, ◌∙◌, ◌+◌, ◌<◌, ap, sym, subst, refl, arith, true, false}
use Rattle.fv_outside.specs.Tasks.{times, task_count}
use Rattle.fv_graph.specs.Graph.{Graph, net_of, feeds_of, task_of}
use Rattle.fv_graph.specs.Wires.{IsWires, wires_of}
use Rattle.fv_graph.proofs.lemmas.Counts.{bit_same}
use Rattle.fv_ready.specs.declared.view.View.{View}
use Rattle.fv_ready.specs.declared.view.Deed.TheVariants.{Stamped, Claimed}
use Rattle.fv_ready.specs.Rule.{done_by, noted, claims, finishes, arrives, zeroes}
use Rattle.fv_ready.specs.Seats.{view_of}
use Rattle.fv_ready.specs.Boards.{name_of, about_of}
use Rattle.fv_ready.proofs.lemmas.Seated.{told_graph}
use Rattle.fv_ready.proofs.lemmas.Moving.{no_items}
use Rattle.fv_steal.specs.Deques.{account_of}
use Rattle.fv_steal.specs.inner.Steps.{HasArrived, PutBetween}
use Rattle.fv_steal.proofs.Sums.{dealt_none}
use Rattle.fv_steal.proofs.Turning.{IsTurn, claims_more, line_room}
use Rattle.fv_steal.proofs.Workers.{worker_after, worker_lost}
use Rattle.fv_steal.proofs.TurnSteps.{if_false, claimed_on, stamped_on, told_is, fresh_win, none_came, inside_of}
use Rattle.fv_steal.proofs.turns.turn.Goals as goal

pub returns-then-not-claim-clause-worker : goal.returns-then-not-claim-clause-worker
returns-then-not-claim-clause-worker g c =
    let old = view_of c.args.worker.now.seat in let saw = view_of c.look.new.seat in let lost = c.if-not-claim.true in
    worker_lost g.C.Parcel.edge_of g.C.Parcel.key_of (name_of c.args.board.now) (about_of c.args.board.now) c.args.worker.now _ c.requires.worker (record {
      same = λ p n m. let a = claimed_on old saw (view_of c.claim.new.seat) c.args.t c.claim.result c.look.ensures.looked c.claim.ensures.list p n in
          let b = ap (λ r. p (Claimed c.args.t r)) lost in let z = m c.args.t in omega arith;
      seat = c.claim.ensures.seat;
      free = (if_false c.claim.result _ _ lost c.claim.ensures.hand, if_false c.claim.result _ _ lost c.claim.ensures.slots);
      numbers = ap (λ (u : View _). u.numbers) c.claim.ensures.list ∙ c.look.ensures.numbers;
      rest = (refl, refl, refl, refl);
    })

pub returns-then-not-claim-clause-claimed : goal.returns-then-not-claim-clause-claimed
returns-then-not-claim-clause-claimed g c = λ x l.
    claimed_on (view_of c.args.worker.now.seat) (view_of c.look.new.seat)
    (view_of c.claim.new.seat) c.args.t c.claim.result c.look.ensures.looked c.claim.ensures.list
    (claims x) (λ u k. refl)

pub run-start-requires-clause-wires : goal.run-start-requires-clause-wires
run-start-requires-clause-wires g c = c.edges_meet.ensures c.args.tasks.now.tasks c.len.ensures.graph

pub write_line-requires : goal.write_line-requires
write_line-requires g c =
    let w = c.args.worker.now in let h = c.requires.worker in let a = about_of c.args.board.now in
    let fresh = fresh_win g.C.Parcel.edge_of g.C.Parcel.key_of c.args.board.now c.args.tasks.now c.requires.tasks (view_of w.seat)
    (view_of c.look.new.seat) c.args.t
    c.claim.new.seat c.claim.result c.if-not-claim.false c.claim.ensures.seat c.claim.ensures.hand c.look.ensures.looked c.claim.ensures.list in
    let there : c.args.t < task_count a.tasks.value.tasks = subst (λ (k : Graph). c.args.t < task_count k.tasks)
    (sym (told_is g.C.Parcel.edge_of g.C.Parcel.key_of c.args.board.now c.args.tasks.now c.requires.tasks)) (let l = c.if-t-len.false in
    let v = c.len.ensures.value in omega arith) in
    let l = line_room a.tasks.value.tasks w.number c.args.t (view_of w.seat) w.lines.items h.journal h.once h.within there fresh in
    let r = h.lines_room in let o = w.lines.ok.0 in omega arith

pub arrive_all-requires-clause-wires : goal.arrive_all-requires-clause-wires
arrive_all-requires-clause-wires g c = c.edges_meet.ensures c.args.tasks.now.tasks c.len.ensures.graph

pub arrive_all-requires-clause-done : goal.arrive_all-requires-clause-done
arrive_all-requires-clause-done g c =
    let s = stamped_on (view_of c.claim.new.seat) (view_of c.run-start.new.seat) c.args.t c.run-start.result.0 c.run-start.result.1 c.run-start.ensures.list
    (finishes c.args.t) in
    let o = bit_same c.args.t c.args.t refl in omega arith

pub arrive_all-requires-clause-owed : goal.arrive_all-requires-clause-owed
arrive_all-requires-clause-owed g c = λ e among.
    let s = stamped_on (view_of c.claim.new.seat) (view_of c.run-start.new.seat) c.args.t c.run-start.result.0 c.run-start.result.1 c.run-start.ensures.list
    (arrives e) in
    let n = none_came g.C.Parcel.edge_of g.C.Parcel.key_of c.args.board.now c.args.tasks.now c.requires.tasks (view_of c.args.worker.now.seat)
    (view_of c.look.new.seat) c.args.t
    c.claim.new.seat c.claim.result c.if-not-claim.false c.claim.ensures.seat c.claim.ensures.hand c.look.ensures.looked c.claim.ensures.list
    (c.edges_meet.ensures c.args.tasks.now.tasks c.len.ensures.graph) (let l = c.if-t-len.false in let v = c.len.ensures.value in omega arith) e among in
    omega arith

pub arrive_all-requires-clause-put : goal.arrive_all-requires-clause-put
arrive_all-requires-clause-put g c = λ x there needs.
    let w = c.args.worker.now in let a = about_of c.args.board.now in
    let p = told_is g.C.Parcel.edge_of g.C.Parcel.key_of c.args.board.now c.args.tasks.now c.requires.tasks in
    let h = subst (λ (k : Graph). times x (Rattle.fv_steal.specs.Deques.account_of w.deque).put ≡
    times x (Rattle.fv_graph.specs.Core.deque_of (Rattle.fv_graph.specs.Core.opening (net_of k.tasks) a.workers) w.number) + done_by (zeroes
    (net_of k.tasks) x) (view_of w.seat)) p (c.requires.worker.put x) in
    let n = net_of c.args.tasks.now.tasks in
    let z = dealt_none n a.workers w.number x there needs in
    let s = stamped_on (view_of c.claim.new.seat) (view_of c.run-start.new.seat) c.args.t c.run-start.result.0 c.run-start.result.1 c.run-start.ensures.list
    (zeroes n x) in
    let k = claimed_on (view_of w.seat) (view_of c.look.new.seat)
    (view_of c.claim.new.seat) c.args.t c.claim.result c.look.ensures.looked c.claim.ensures.list (zeroes n x) (λ u k. refl) in
    omega arith

turned : (g : _) (c : goal.After-arrive_all g) → IsTurn c.args.tasks.now.tasks c.args.t c.run-start.result.0 c.run-start.result.1
    (view_of c.args.worker.now.seat)
    (view_of c.look.new.seat) (view_of c.arrive_all.new.seat)
turned g c = record {
  looked = c.look.ensures.looked;
  arrived = subst (λ (v : View _). HasArrived (feeds_of c.args.tasks.now.tasks c.args.t) v (view_of c.arrive_all.new.seat))
      (c.run-start.ensures.list ∙ ap (λ (u : View _). noted (noted u (Stamped c.run-start.result.0 c.args.t true))
      (Stamped c.run-start.result.1 c.args.t false))
      (c.claim.ensures.list ∙ ap (λ r. noted (view_of c.look.new.seat) (Claimed c.args.t r)) c.if-not-claim.false)) c.arrive_all.ensures.arrived;
}

pub returns-clause-worker : goal.returns-clause-worker
returns-clause-worker g c =
    let w = c.args.worker.now in let h = c.requires.worker in let b = c.args.board.now in let a = about_of b in let t = c.args.t in
    let s = c.run-start.result.0 in let f = c.run-start.result.1 in let saw = view_of c.look.new.seat in
    let p = told_is g.C.Parcel.edge_of g.C.Parcel.key_of b c.args.tasks.now c.requires.tasks in
    let there : t < task_count c.args.tasks.now.tasks = let l = c.if-t-len.false in let v = c.len.ensures.value in omega arith in
    let there' = subst (λ (k : Graph). t < task_count k.tasks) (sym p) there in
    let task : c.task-task.result ≡ task_of a.tasks.value.tasks t = c.task-task.ensures ∙ ap (λ (k : Graph). task_of k.tasks t) (sym p) in
    let v3 = c.run-start.ensures.list ∙ ap (λ (u : View _). noted (noted u (Stamped s t true)) (Stamped f t false))
    (c.claim.ensures.list ∙ ap (λ r. noted saw (Claimed t r)) c.if-not-claim.false) in
    worker_after g.C.Parcel.edge_of g.C.Parcel.key_of (name_of b) a t s f saw
    (record { task = c.task-task.result; worker = w.number; start = s; finish = f }) w _
    (subst (λ (k : Graph). IsWires (wires_of k.tasks)) (sym p) (c.edges_meet.ensures c.args.tasks.now.tasks c.len.ensures.graph)) there' h (record {
      turn = subst (λ (k : Graph). IsTurn k.tasks t s f (view_of w.seat) saw (view_of c.arrive_all.new.seat)) (sym p) (turned g c);
      seat = c.arrive_all.ensures.seat;
      hand = c.arrive_all.ensures.hand;
      numbers = c.arrive_all.ensures.numbers ∙ ap (λ (u : View _). u.numbers) c.run-start.ensures.list ∙ ap (λ (u : View _). u.numbers) c.claim.ensures.list
          ∙ c.look.ensures.numbers;
      number = refl;
      won = fresh_win g.C.Parcel.edge_of g.C.Parcel.key_of b c.args.tasks.now c.requires.tasks (view_of w.seat) saw t
          c.claim.new.seat c.claim.result c.if-not-claim.false c.claim.ensures.seat c.claim.ensures.hand c.look.ensures.looked c.claim.ensures.list;
      between = subst (λ (q : Graph × View _). PutBetween (net_of q.0.tasks) q.1 (view_of c.arrive_all.new.seat) (account_of w.deque).put
          (account_of c.arrive_all.new.deque).put)
          (λ i. (sym p i, v3 i)) c.arrive_all.ensures.between;
      lines = c.write_line.ensures.line;
      stamps = (refl, refl, c.run-start.ensures.spans);
      task = task;
      inside = inside_of a.tasks.value.tasks (told_graph b) t there' c.task-task.result task;
      who = refl;
      room = c.arrive_all.ensures.deque.1;
      lines_room = let k = c.write_line.ensures.room in omega arith;
      parcels_room = c.run-start.ensures.room;
      no_parcels = no_items c.run-start.new.parcels.items (let k = c.run-start.ensures.none in let o = c.run-start.new.parcels.ok.0 in omega arith);
    })

pub returns-clause-claimed : goal.returns-clause-claimed
returns-clause-claimed g c = λ x l. claims_more c.args.tasks.now.tasks c.args.t c.run-start.result.0 c.run-start.result.1 (view_of c.args.worker.now.seat)
    (view_of c.look.new.seat) (view_of c.arrive_all.new.seat) (turned g c) x
