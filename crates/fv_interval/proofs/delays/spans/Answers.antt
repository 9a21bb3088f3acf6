use Rattle.std.proofs.Common.{◌≤◌, length, ap, ◌∙◌, subst, arith, IfOk, IfErr}
use Rattle.fv_base.proofs.lemmas.Lists.{length_table}
use Rattle.fv_num.specs.headline.Frames.{table}
use Rattle.fv_num.specs.headline.Interval.{full}
use Rattle.fv_diagram.specs.headline.Diagram.{inputs, size}
use Rattle.fv_diagram.specs.Arena.{tree_of}
use Rattle.fv_diagram.proofs.lemmas.Lists.{on_ok_always}
use Rattle.fv_interval.specs.headline.SpanHooks.{control_span}
use Rattle.fv_interval.specs.Delays.{AreAccepted, IsDelayRefusal}
use Rattle.fv_interval.proofs.lemmas.Holds.{answers_hold, delays_hold}
use Rattle.fv_interval.proofs.lemmas.Refused.{delays_few, delays_are}
use Rattle.fv_interval.proofs.delays.spans.Goals as goal

pub walk-requires-clause-width : goal.walk-requires-clause-width
walk-requires-clause-width c = ap length c.in_ok-ins.ensures ∙ length_table c.from.result (λ i. full) ∙ c.from.ensures ∙ c.arity.ensures.arity.0

pub accepted-requires : goal.accepted-requires
accepted-requires c =
    let d = tree_of c.args.diagrams.now c.args.root in
    let small : size d ≤ 16384 = omega (arith, c.size.ensures.size, c.size.ensures.within) in
    let are = delays_are d c.args.controls.now c.in_ok-ins.ins.items _ c.from.result c.full.result c.in_ok-walked.walked c.walk.new.signals c.requires.well
    (c.from.ensures ∙ c.arity.ensures.arity.0) c.in_ok-ins.ensures
    c.full.ensures.value c.in_ok-walked.ensures c.in_ok-walk.ensures.walked in
    omega (arith, ap length (c.delays.ensures ∙ are), small, delays_few d (control_span c.args.controls.now) (λ i. full) (table (inputs d) (λ i. full)) small)

pub returns-clause-ok : goal.returns-clause-ok
returns-clause-ok c =
    let d = tree_of c.args.diagrams.now c.args.root in
    let are = delays_are d c.args.controls.now c.in_ok-ins.ins.items _ c.from.result c.full.result c.in_ok-walked.walked c.walk.new.signals c.requires.well
    (c.from.ensures ∙ c.arity.ensures.arity.0) c.in_ok-ins.ensures
    c.full.ensures.value c.in_ok-walked.ensures c.in_ok-walk.ensures.walked in
    subst (λ ss. IfOk c.accepted.result (AreAccepted ss)) (c.delays.ensures ∙ are) c.accepted.ensures.ok

pub returns-clause-refused : goal.returns-clause-refused
returns-clause-refused c =
    let d = tree_of c.args.diagrams.now c.args.root in
    let are = delays_are d c.args.controls.now c.in_ok-ins.ins.items _ c.from.result c.full.result c.in_ok-walked.walked c.walk.new.signals c.requires.well
    (c.from.ensures ∙ c.arity.ensures.arity.0) c.in_ok-ins.ensures
    c.full.ensures.value c.in_ok-walked.ensures c.in_ok-walk.ensures.walked in
    subst (λ ss. IfErr c.accepted.result (IsDelayRefusal ss)) (c.delays.ensures ∙ are) c.accepted.ensures.refused

pub returns-clause-answers : goal.returns-clause-answers
returns-clause-answers c = on_ok_always c.accepted.result _ (answers_hold (tree_of c.args.diagrams.now c.args.root))

pub returns-clause-delays : goal.returns-clause-delays
returns-clause-delays c = on_ok_always c.accepted.result _ (delays_hold (tree_of c.args.diagrams.now c.args.root))
