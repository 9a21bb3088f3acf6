use Rattle.std.proofs.Common.{length, All, ap, sym, ◌∙◌, ◌+◌, subst}
use Rattle.std.proofs.lemmas.Result.{IfOk-weaker}
use Rattle.fv_base.proofs.lemmas.Lists.{length_table}
use Rattle.fv_diagram.specs.Arena.{tree_of}
use Rattle.fv_diagram_runner.specs.inner.Code.{input_code, IsRegister}
use Rattle.fv_diagram_runner.proofs.Starts.{inputs_below, starts}
use Rattle.fv_diagram_runner.proofs.stepper.Stepper.new.Goals as goal

pub walk-requires-clause-width : goal.walk-requires-clause-width
walk-requires-clause-width c = ap length c.in_ok-ins.ensures ∙ length_table c.from-count.result (λ i. 1 + i) ∙ c.from-count.ensures ∙ c.arity.ensures.arity.0

pub walk-requires-clause-wires : goal.walk-requires-clause-wires
walk-requires-clause-wires c =
    subst (λ p. All (IsRegister p) c.in_ok-ins.ins.items) (sym c.in_ok-draft.ensures)
    (subst (All (IsRegister (input_code c.from-count.result))) (sym c.in_ok-ins.ensures) (inputs_below c.from-count.result))

pub returns : goal.returns
returns c =
    IfOk-weaker c.finish.result _ _ (λ s f. starts c.in_ok-draft.draft c.walk.new.signals s (tree_of c.args.diagrams.now c.args.root)
    c.from-count.result c.in_ok-ins.ins.items c.in_ok-outs.outs.items
    (c.from-count.ensures ∙ c.arity.ensures.arity.0) c.in_ok-draft.ensures c.in_ok-ins.ensures c.in_ok-outs.ensures.walked c.requires.well
    c.arity.ensures.numbers c.requires.closed c.finish.ensures.ordered c.finish.ensures.begun c.finish.ensures.listed f) c.finish.ensures.runner_state
