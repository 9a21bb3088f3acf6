use Rattle.std.proofs.Common.{sym, subst}
use Rattle.fv_eval_patterns.specs.Trials.{Recalls, Tells}
use Rattle.fv_eval_patterns.proofs.lemmas.LongPatterns.{told_set, says_told}
use Rattle.fv_eval_patterns.proofs.trials.Trials.remember.Goals as goal

pub returns-in-Some : goal.returns-in-Some
returns-in-Some c = λ p a h s.
    let ts = c.self.inside.slots.items in
    let kept = c.self.inside.bindings.items in
    let x = c.args.pair.now in
    let old : Recalls p a (record { trials = ts; bindings = kept; survey = c.self.inside.survey }) =
    subst (Recalls p a) (sym c.self.view_is) (c.widen.ensures p a h) in
    record {
      trials = told_set p a ts kept c.in-Some.i (record { pair = x; outcome = c.outcome_of-outcome.result }) c.in-Some.ensures old.trials
          (subst (λ o. Tells p a kept o x) (sym c.outcome_of-outcome.ensures) (says_told p a kept c.args.may x s));
      survey = old.survey;
    }

pub returns-in_default : goal.returns-in_default
returns-in_default c = λ p a h s. subst (Recalls p a) (sym c.self.view_is) (c.widen.ensures p a h)
