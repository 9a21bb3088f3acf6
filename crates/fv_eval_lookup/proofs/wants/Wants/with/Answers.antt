use Rattle.fv_eval_lookup.proofs.Wanting.{both_more}
use Rattle.fv_eval_lookup.proofs.wants.Wants.with.Goals as goal

pub loop-wanted-preserved : goal.loop-wanted-preserved
loop-wanted-preserved c =
    both_more c.args.others.now c.loop-wanted.rules c.add.new.self c.of-wanted-items.result.now c.loop-wanted.wanted-index (record { key = 0; rule = 0 })
    c.loop-wanted-test.true c.loop-wanted.invariant c.add.ensures.keeps c.in_ok-add.ensures.added
