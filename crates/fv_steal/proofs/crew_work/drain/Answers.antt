use Rattle.std.proofs.Common.{Some, None}
use Rattle.fv_steal.proofs.TurnSteps.{not_turned, worker_found, popped, popped_keeps, found_none, found_one}
use Rattle.fv_steal.proofs.crew_work.drain.Goals as goal

pub loop-init : goal.loop-init
loop-init g c = (
  tt,
  tt,
  record { turned = not_turned g.C.Parcel.edge_of g.C.Parcel.key_of c.args.board.now c.args.tasks.now.tasks c.args.worker.now c.requires.worker },
)

pub turn-requires-clause-worker : goal.turn-requires-clause-worker
turn-requires-clause-worker g c = let w = c.loop.worker in let d = c.pop.new.self in let p = c.in-Some-pop.ensures in
    worker_found g.C.Parcel.edge_of g.C.Parcel.key_of c.args.board.now w (record w { deque = d }) c.loop.invariant.2.turned.worker
    (popped_keeps (Some c.in-Some-pop.t) w d ⊥ p.room p.place p.found).0

pub loop-preserved : goal.loop-preserved
loop-preserved g c =
    let w = c.loop.worker in let d = c.pop.new.self in let p = c.in-Some-pop.ensures in let t = c.turn.ensures in
    let k = popped_keeps (Some c.in-Some-pop.t) w d ⊥ p.room p.place p.found in (
      tt,
      tt,
      record {
        turned = found_one g.C.Parcel.edge_of g.C.Parcel.key_of c.args.board.now c.args.tasks.now.tasks c.args.worker.now w (record w { deque = d })
            c.loop.invariant.2.turned k.0 k.1 c.in-Some-pop.t c.turn.new.worker (popped (Some c.in-Some-pop.t) w d ⊥ p.found) t.worker t.same t.took t.claimed;
      },
    )

pub returns-in-None-pop-clause-turned : goal.returns-in-None-pop-clause-turned
returns-in-None-pop-clause-turned g c =
    let w = c.loop.worker in let d = c.pop.new.self in let p = c.in-None-pop.ensures in let k = popped_keeps None w d _ p.room p.place p.found in
    found_none g.C.Parcel.edge_of g.C.Parcel.key_of c.args.board.now c.args.tasks.now.tasks c.args.worker.now w (record w { deque = d })
    c.loop.invariant.2.turned k.0 k.1 (popped None w d _ p.found)
