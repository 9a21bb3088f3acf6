use Rattle.fv_steal.proofs.Drainings.{one_drained}
use Rattle.fv_steal.proofs.crew_work.drain_all.Goals as goal

pub loop-k-preserved : goal.loop-k-preserved
loop-k-preserved g c = record {
  drained = one_drained g.C.Parcel.edge_of g.C.Parcel.key_of c.args.board.now c.args.tasks.now.tasks c.args.workers.now c.loop-k.k c.loop-k.workers
      c.loop-k.invariant.drained c.loop-k-test.true c.index-workers-k.result c.drain.new.worker c.drain.ensures.turned c.drain.ensures.emptied;
}
