use Rattle.fv_steal.proofs.GivenBack.{before_of, one_given}
use Rattle.fv_steal.proofs.all_holds.gather.Goals as goal

pub gather_from-requires-clause-holds : goal.gather_from-requires-clause-holds
gather_from-requires-clause-holds g c = before_of c.args.workers.now c.loop-w.w c.loop-w.workers c.loop-w.invariant.given c.loop-w-test.true

pub loop-w-preserved : goal.loop-w-preserved
loop-w-preserved g c = record {
  given = one_given c.args.workers.now c.loop-w.w c.loop-w.workers c.loop-w.invariant.given c.loop-w-test.true c.gather_from.new.workers
      c.gather_from.ensures.given;
}
