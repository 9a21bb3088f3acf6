use Rattle.std.proofs.Common.{sym, ap, ◌∙◌, subst, arith}
use Rattle.fv_signal.specs.declared.signal.Signal.TheVariants.{Back}
use Rattle.fv_propagate.specs.inner.Progress.{AreNested}
use Rattle.fv_propagate.proofs.Kept.{begun_so}
use Rattle.fv_propagate.proofs.Puts.{puts_feedbacks}
use Rattle.fv_propagate.proofs.progress.Progress.begin.Goals as goal

pub put_backs-requires-clause-backs : goal.put_backs-requires-clause-backs
put_backs-requires-clause-backs c = λ s k x l e. let none = c.in_ok-group.ensures.fresh s k x l e in absurd (omega arith)

pub push-requires-clause-nested : goal.push-requires-clause-nested
push-requires-clause-nested c =
    let g = c.in_ok-group.group in
    let p = c.group.new.self in
    let same = ap (λ r. r.1.feedbacks) c.in_ok-late.ensures.done ∙ puts_feedbacks (Back g) c.args.count p in
    subst (AreNested g) (sym same) c.in_ok-group.ensures.nested

pub returns : goal.returns
returns c =
    begun_so c.args.count c.in_ok-group.group c.args.self.now c.pass.new.self c.group.new.self c.put_backs.new.self c.push.new.self c.in_ok-late.late.items
    c.pass.ensures c.in_ok-group.ensures.number c.in_ok-group.ensures.grouped c.in_ok-late.ensures.done c.in_ok-push.ensures
