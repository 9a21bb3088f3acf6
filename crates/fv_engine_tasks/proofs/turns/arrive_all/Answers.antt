use Rattle.std.proofs.Common.{◌+◌, drop, ◌∙◌, subst}
use Rattle.std.proofs.lemmas.List.{drop_more}
use Rattle.fv_engine_tasks.specs.Events.{Owes}
use Rattle.fv_engine_tasks.proofs.EventLemmas.{keeps_on}
use Rattle.fv_engine_tasks.proofs.turns.arrive_all.Goals as goal

pub loop-i-preserved : goal.loop-i-preserved
loop-i-preserved c = record {
  kept = keeps_on c.args.core.now c.loop-i.core c.arrive.new.core c.loop-i.invariant.kept c.arrive.ensures.kept;
  done = c.arrive.ensures.done ∙ c.loop-i.invariant.done;
  owes = let feeds = c.feeds-feeds.result.now in let i = c.loop-i.i in
      c.arrive.ensures.owes (drop (i + 1) feeds) (subst (Owes c.loop-i.core.now) (drop_more feeds i 0 c.loop-i-test.true) c.loop-i.invariant.owes);
}
