use Rattle.std.proofs.Common.{◌≡◌, ◌⊎◌, List, Ok, Err, ◌∙◌, ap, subst}
use Rattle.std.proofs.lemmas.Result.{err_from_is_err_and}
use Rattle.fv_interval.specs.Interval.{Interval}
use Rattle.fv_interval.specs.Arena.{tree_of}
use Rattle.fv_interval.specs.headline.Delays.{delays_of}
use Rattle.fv_interval.specs.Delays.{AreAccepted, IsDelayRefusal}
use Rattle.fv_eval.specs.Evaluated.{Evaluated}
use Rattle.fv_interval.specs.headline.Controls.{spans_of}
use Rattle.fv_top_program.specs.Compiled.{compiled_of}
use Rattle.fv_top_report.specs.declared.refusal.Refusal.TheVariants.{NoMemory}
use Rattle.fv_top_program.specs.headline.Program.{delayed, first_bad, delays_in}
use Rattle.fv_top_program.specs.Program.{IsOfText}
use Rattle.fv_top_program.proofs.lemmas.Delayed.{delays_pass, delays_stop}
use Rattle.fv_top_program.proofs.text.check_delays.Goals as goal

pub returns-in_err-delays-clause-err : goal.returns-in_err-delays-clause-err
returns-in_err-delays-clause-err c =
    let i = c.program.inside in
    let q : Evaluated = record { diagrams = i.diagrams; root = i.root; controls = i.controls } in
    let e = c.in_err-delays.field-0.0 in
    let same : c.deref.result.now ≡ spans_of i.controls = c.deref.ensures.value ∙ c.in_ok-controls.ensures ∙ ap spans_of c.as_slice.ensures in
    let p = err_from_is_err_and c.from_residual-in_err-delays.result c.from_residual-in_err-delays.ensures.1 in
    let refused = subst (λ (ss : List Interval). IsDelayRefusal (delays_of (tree_of i.diagrams i.root) ss) e) same c.in_err-delays.ensures.refused in
    let Stops : Evaluated → Type 0 = λ w. (p.0 ≡ NoMemory) ⊎ (IsOfText p.0 × (delayed (compiled_of w) (first_bad (delays_in (compiled_of w))) ≡ Err p.0)) in
    rw p.1 (subst Stops c.program.view_is (delays_stop (compiled_of q) e p.0 p.2 refused))

pub returns-clause-ok : goal.returns-clause-ok
returns-clause-ok c =
    let i = c.program.inside in
    let q : Evaluated = record { diagrams = i.diagrams; root = i.root; controls = i.controls } in
    let same : c.deref.result.now ≡ spans_of i.controls = c.deref.ensures.value ∙ c.in_ok-controls.ensures ∙ ap spans_of c.as_slice.ensures in
    let ds = c.in_ok-delays.delays in
    subst (λ (w : Evaluated). delayed (compiled_of w) (first_bad (delays_in (compiled_of w))) ≡ Ok (compiled_of w)) c.program.view_is
    (delays_pass (compiled_of q) ds (subst (λ (ss : List Interval). AreAccepted (delays_of (tree_of i.diagrams i.root) ss) ds) same c.in_ok-delays.ensures.ok))

pub returns-clause-accepted : goal.returns-clause-accepted
returns-clause-accepted c =
    let i = c.program.inside in
    let same : c.deref.result.now ≡ spans_of i.controls = c.deref.ensures.value ∙ c.in_ok-controls.ensures ∙ ap spans_of c.as_slice.ensures in
    let ds = c.in_ok-delays.delays in
    let all = subst (λ (ss : List Interval). AreAccepted (delays_of (tree_of i.diagrams i.root) ss) ds) same c.in_ok-delays.ensures.ok in
    subst (λ (w : Evaluated). AreAccepted (delays_in (compiled_of w)) ds) c.program.view_is all
