use Rattle.std.proofs.Common.{◌+◌, length, ap, ◌∙◌, arith}
use Rattle.fv_base.proofs.lemmas.Lists.{length_table}
use Rattle.fv_diagram_runner.specs.inner.Code.{code_of, with_cells}
use Rattle.fv_diagram_runner.proofs.Codes.{steps_long, late_registers, code_opens}
use Rattle.fv_diagram_runner.proofs.Faithful.{cells_long}
use Rattle.fv_diagram_runner.proofs.draft.DraftSignals.open.Goals as goal

pub invariant_of-self-2 : goal.invariant_of-self-2
invariant_of-self-2 c =
    let s = c.args.self.now in
    code_opens (with_cells c.args.count s) (code_of c.self-2.inside) _ record { first = c.len-first.result; count = c.args.count }
    (c.self-2.view_is ∙ c.in_ok-late.ensures.1) c.self-2.invariant
    c.in_ok-push_front.ensures.items (omega (arith, c.len-first.ensures, ap (λ z. length z.sources) c.self.view_is, cells_long c.args.count s))

pub returns-clause-width : goal.returns-clause-width
returns-clause-width c = ap length c.in_ok-late.ensures.0 ∙ length_table c.args.count (λ i. length c.args.self.now.steps + i)

pub returns-clause-wires : goal.returns-clause-wires
returns-clause-wires c =
    late_registers c.args.count (length c.args.self.now.steps) (length c.self-2.inside.steps.items) c.in_ok-late.late.items c.in_ok-late.ensures.0
    (omega (arith, ap (λ z. length z.steps) c.self-2.view_is, ap (λ z. length z.steps) c.in_ok-late.ensures.1, steps_long c.args.count c.args.self.now))
