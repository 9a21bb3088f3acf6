use Rattle.std.proofs.Common.{length, set, subst, sym, ap, ◌∙◌, ◌+◌, ◌<◌, arith}
use Rattle.fv_steal.specs.declared.handles.TaskDeque.{TaskDeque}
use Rattle.fv_steal.specs.Deques.{account_of, lies_at}
use Rattle.fv_steal.specs.inner.Made.{HasLent}
use Rattle.fv_steal.proofs.Deals.{one_lent}
use Rattle.fv_steal.proofs.crew_deques.holds_on_all.Goals as goal

pub loop-i-preserved : goal.loop-i-preserved
loop-i-preserved c =
    let l = c.in_ok-lend.ensures in let r = c.index_mut.result.now in let is = c.index_mut.ensures.value in
    let low : c.loop-i.i < length c.loop-i.deques.items = let t = c.loop-i-test.true in let o = c.loop-i.deques.ok.0 in omega arith in record {
      lent = subst (λ vs. HasLent (c.loop-i.i + 1) c.args.deques.now.items (set c.loop-i.deques.items c.loop-i.i c.lend.new.self) vs)
          (sym c.in_ok-push.ensures.items)
          (one_lent c.loop-i.i c.args.deques.now.items c.loop-i.deques.items c.loop-i.victims.items c.loop-i.invariant.lent
          (let n = c.loop-i.invariant.lent.count in omega arith) r c.lend.new.self c.in_ok-lend.field-0
          (l.room ∙ ap (λ (d : TaskDeque). d.room) is) (l.place ∙ ap lies_at is)
          (l.kept.0 ∙ ap (λ (d : TaskDeque). (account_of d).put) is, l.kept.1 ∙ ap (λ (d : TaskDeque). (account_of d).taken) is)
          (l.lent.0 ∙ ap lies_at is, l.lent.1, l.lent.2 ∙ ap (λ (d : TaskDeque). (account_of d).lent + 1) is));
    }
