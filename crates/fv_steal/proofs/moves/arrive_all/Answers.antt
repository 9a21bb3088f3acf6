use Rattle.std.proofs.Common.{◌≡◌, ◌∙◌, ◌<◌, sym, subst, get_or, true, [], ◌∷◌}
use Rattle.fv_graph.specs.Graph.{net_of, feeds_of}
use Rattle.fv_ready.specs.Rule.{done_by, finishes, arrives}
use Rattle.fv_ready.specs.Seats.{view_of}
use Rattle.fv_steal.specs.Deques.{account_of}
use Rattle.fv_steal.specs.inner.Steps.{HasArrived}
use Rattle.fv_steal.proofs.Boards.{low_in}
use Rattle.fv_steal.proofs.Arrivals.{fed, arrived_more, next_owed, put_on}
use Rattle.fv_steal.proofs.moves.arrive_all.Goals as goal

pub arrive_at-requires-clause-inner : goal.arrive_at-requires-clause-inner
arrive_at-requires-clause-inner g c =
    let t = c.args.t in let tasks = c.args.tasks.now.tasks in let i = c.loop-i.i in
    let low = low_in c.feeds-edges.result.now (feeds_of tasks t) i c.feeds-edges.ensures c.loop-i-test.true in
    subst (λ l. (net_of tasks).is_inner (get_or l i 0) ≡ true) (sym c.feeds-edges.ensures) (fed tasks c.requires.wires t c.requires.task i low).inner

pub arrive_at-requires-clause-owed : goal.arrive_at-requires-clause-owed
arrive_at-requires-clause-owed g c =
    let t = c.args.t in let tasks = c.args.tasks.now.tasks in let i = c.loop-i.i in
    let low = low_in c.feeds-edges.result.now (feeds_of tasks t) i c.feeds-edges.ensures c.loop-i-test.true in
    subst (λ l. (0 < done_by (finishes ((net_of tasks).source (get_or l i 0))) (view_of c.loop-i.seat))
    × (done_by (arrives (get_or l i 0)) (view_of c.loop-i.seat) ≡ 0))
    (sym c.feeds-edges.ensures)
    (next_owed tasks c.requires.wires t c.requires.task i low (view_of c.args.seat.now)
    (view_of c.loop-i.seat) c.loop-i.invariant.arrived c.requires.done c.requires.owed)

pub loop-i-preserved : goal.loop-i-preserved
loop-i-preserved g c =
    let t = c.args.t in let tasks = c.args.tasks.now.tasks in let i = c.loop-i.i in let a = c.arrive_at.ensures in let v = c.loop-i.invariant in
    let low = low_in c.feeds-edges.result.now (feeds_of tasks t) i c.feeds-edges.ensures c.loop-i-test.true in record {
      seat = a.seat;
      hand = a.hand;
      arrived = arrived_more tasks c.requires.wires t c.requires.task i low (view_of c.args.seat.now) (view_of c.loop-i.seat)
          (view_of c.arrive_at.new.seat) v.arrived
          (subst (λ l. HasArrived (get_or l i 0 ∷ []) (view_of c.loop-i.seat) (view_of c.arrive_at.new.seat)) c.feeds-edges.ensures a.arrived);
      numbers = a.numbers ∙ v.numbers;
      put = a.put;
      between = put_on (net_of tasks) (view_of c.args.seat.now) (view_of c.loop-i.seat) (view_of c.arrive_at.new.seat) (account_of c.args.deque.now).put
          (account_of c.loop-i.deque).put (account_of c.arrive_at.new.deque).put v.between a.between;
      deque = (a.deque.0 ∙ v.deque.0, a.deque.1 ∙ v.deque.1, a.deque.2 ∙ v.deque.2, a.deque.3 ∙ v.deque.3);
    }
