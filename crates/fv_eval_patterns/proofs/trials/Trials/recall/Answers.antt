use Rattle.std.proofs.Common.{ap, sym, subst}
use Rattle.fv_eval_patterns.specs.Remembered.{Remembered}
use Rattle.fv_eval_patterns.specs.Trials.{Says}
use Rattle.fv_eval_patterns.proofs.lemmas.LongPatterns.{at_slot, tells_may}
use Rattle.fv_eval_patterns.proofs.trials.Trials.recall.Goals as goal

pub returns-then-is_same : goal.returns-then-is_same
returns-then-is_same c = λ p a h.
    let m : Remembered = c.args.self.now in
    let t = c.index-trial.result.now in
    let x = c.args.pair.now in
    subst (λ b. Says p a b x) (sym c.may_match.ensures)
    (tells_may p a m.bindings t.outcome x
    (at_slot p a m c.self.inside.slots.items c.in_ok-i.i t x (ap (λ (n : Remembered). n.trials) c.self.view_is) c.in_ok-i.ensures c.index-trial.ensures
    (c.is_same.ensures c.if-is_same.true) h))
