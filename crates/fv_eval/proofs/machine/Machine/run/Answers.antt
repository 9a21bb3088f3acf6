use Rattle.std.proofs.Common.{Result, Ok, ap, subst, ◌∙◌}
use Rattle.fv_rules.specs.declared.refusal.EvalRefusal.{EvalRefusal}
use Rattle.fv_rules.specs.Machine.{step}
use Rattle.fv_eval.specs.declared.continuation.Focus.{Focus}
use Rattle.fv_eval.specs.inner.Continuations.{Continues, Goes}
use Rattle.fv_eval.proofs.Runs.{goes_on, run_done, run_refused}
use Rattle.fv_eval.proofs.machine.Machine.run.Goals as goal

pub returns-in-Ok-Done : goal.returns-in-Ok-Done
returns-in-Ok-Done c =
    let p = c.args.text.now in
    let m = c.stepping.self in
    let n = c.step.new.self in
    let w = c.in-Ok-Done in
    λ o h. run_done p n w.value o
    (subst (λ (r : Result Focus EvalRefusal). Continues p.tokens p n r o) (w.is ∙ ap Ok w.field-0-is)
    (goes_on p m n c.stepping.focus c.step.result o c.steps_mean.ensures.steps c.step.ensures (c.stepping.invariant.continues o h)))

pub returns-in-Err : goal.returns-in-Err
returns-in-Err c =
    let p = c.args.text.now in
    let m = c.stepping.self in
    let n = c.step.new.self in
    λ o h. run_refused p n c.in-Err.refusal o
    (subst (λ (r : Result Focus EvalRefusal). Continues p.tokens p n r o) c.in-Err.is
    (goes_on p m n c.stepping.focus c.step.result o c.steps_mean.ensures.steps c.step.ensures (c.stepping.invariant.continues o h)))

pub stepping-preserved : goal.stepping-preserved
stepping-preserved c =
    let p = c.args.text.now in
    let m = c.stepping.self in
    let n = c.step.new.self in
    let runs = c.stepping.invariant.runs in
    record {
      runs = (step p.tokens runs.0, subst (λ (r : Result Focus EvalRefusal). Goes p n r (step p.tokens runs.0)) c.in-Ok.is (c.step.ensures runs.0 runs.1));
      continues = λ o h.
          subst (λ (r : Result Focus EvalRefusal). Continues p.tokens p n r o) c.in-Ok.is
          (goes_on p m n c.stepping.focus c.step.result o c.steps_mean.ensures.steps c.step.ensures (c.stepping.invariant.continues o h));
    }
