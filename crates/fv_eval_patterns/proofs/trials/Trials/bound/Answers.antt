use Rattle.std.proofs.Common.{◌≡◌, ap, drop, sym, subst, take}
use Rattle.fv_parse.specs.Trees.{Parsed}
use Rattle.fv_diagram.specs.Arena.{Arena}
use Rattle.fv_eval_patterns.specs.Remembered.{Remembered}
use Rattle.fv_eval_patterns.specs.Trials.{Binds, Recalls, Tells}
use Rattle.fv_eval_patterns.proofs.lemmas.LongPatterns.{at_slot, if_some}
use Rattle.fv_eval_patterns.proofs.trials.Trials.bound.Goals as goal

pub returns-in-Binds : goal.returns-in-Binds
returns-in-Binds c =
    let m : Remembered = c.args.self.now in
    let t = c.index-trial.result.now in
    let x = c.args.pair.now in
    if_some c.range.result (λ r. r.now ≡ take c.in-Binds.count (drop c.in-Binds.from m.bindings))
    (λ r. (p : Parsed) (a : Arena) → Recalls p a m → Binds p a x r.now)
    (λ r e p a h.
    let tells = at_slot p a m c.self.inside.slots.items c.in_ok-i.i t x (ap (λ (n : Remembered). n.trials) c.self.view_is) c.in_ok-i.ensures
    c.index-trial.ensures
    (c.is_same.ensures c.if-not-is_same.false) h in
    subst (Binds p a x) (sym e) (subst (λ o. Tells p a m.bindings o x) c.in-Binds.is tells).2) c.range.ensures
