use Rattle.fv_steal.proofs.TurnSteps.{worker_found, not_turned, found_none, found_one}
use Rattle.fv_steal.proofs.crew_work.live.Goals as goal

pub loop-init : goal.loop-init
loop-init g c = (
  tt,
  tt,
  record { turned = not_turned g.C.Parcel.edge_of g.C.Parcel.key_of c.args.board.now c.args.tasks.now.tasks c.args.worker.now c.requires.worker },
)

pub turn-requires-clause-worker : goal.turn-requires-clause-worker
turn-requires-clause-worker g c =
    worker_found g.C.Parcel.edge_of g.C.Parcel.key_of c.args.board.now c.loop.worker c.find.new.worker c.loop.invariant.2.turned.worker c.find.ensures.keeps

pub loop-preserved : goal.loop-preserved
loop-preserved g c = let f = c.in-Some-find.ensures in let t = c.turn.ensures in (
  tt,
  tt,
  record {
    turned = found_one g.C.Parcel.edge_of g.C.Parcel.key_of c.args.board.now c.args.tasks.now.tasks c.args.worker.now c.loop.worker c.find.new.worker
        c.loop.invariant.2.turned f.keeps f.same c.in-Some-find.t c.turn.new.worker f.found t.worker t.same t.took t.claimed;
  },
)

pub returns-in-None-find : goal.returns-in-None-find
returns-in-None-find g c = let f = c.in-None-find.ensures in
    found_none g.C.Parcel.edge_of g.C.Parcel.key_of c.args.board.now c.args.tasks.now.tasks c.args.worker.now c.loop.worker c.find.new.worker
    c.loop.invariant.2.turned f.keeps f.same f.found
