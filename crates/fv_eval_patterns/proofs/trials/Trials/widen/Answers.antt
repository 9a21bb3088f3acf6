use Rattle.std.proofs.Common.{sym, subst}
use Rattle.fv_eval_patterns.specs.Trials.{Recalls}
use Rattle.fv_eval_patterns.proofs.lemmas.LongPatterns.{told_push}
use Rattle.fv_eval_patterns.proofs.trials.Trials.widen.Goals as goal

pub widen-init : goal.widen-init
widen-init c = λ p a h. subst (Recalls p a) (sym c.self.view_is) h

pub widen-preserved : goal.widen-preserved
widen-preserved c = λ p a h.
    let old = c.widen.invariant p a h in
    record {
      trials = told_push p a c.widen.self-inside.slots.items c.push.new.self.items c.widen.self-inside.bindings.items _ c.in_ok-push.ensures.items
          old.trials tt;
      survey = old.survey;
    }
