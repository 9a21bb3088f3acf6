use Rattle.std.proofs.Common.{subst, sym, ◌+◌}
use Rattle.fv_steal.specs.inner.Made.{HaveLent}
use Rattle.fv_steal.proofs.Deals.{one_has}
use Rattle.fv_steal.proofs.crew_deques.holds_of_all.Goals as goal

pub loop-w-preserved : goal.loop-w-preserved
loop-w-preserved c = record {
  lent = subst (λ vss. HaveLent (c.loop-w._w + 1) c.args.deques.now.items c.holds_on_all.new.deques.items vss) (sym c.in_ok-push.ensures.items)
      (one_has c.loop-w._w c.args.deques.now.items c.loop-w.deques.items c.holds_on_all.new.deques.items c.loop-w.all.items
      c.in_ok-holds_on_all.field-0 c.loop-w.invariant.lent c.in_ok-holds_on_all.ensures.lent);
}
