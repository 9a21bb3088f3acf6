use Rattle.std.proofs.Common.{◌+◌, arith}
use Rattle.fv_eval_drawing.proofs.Wired.{all_refused, widens_on}
use Rattle.fv_eval_drawing.proofs.diagrams.Drawing.wires.Goals as goal

pub widening-preserved : goal.widening-preserved
widening-preserved c =
    widens_on c.args.self.now c.widening.self c.wider.new.self c.args.count c.in_ok-wire.wire c.widening.whole c.widening.done _ c.in-Ok.id
    c.widening.invariant c.widening-test.true (omega arith) c.in-Ok.ensures.adds c.in-Ok.ensures.wired

pub returns-in-Err-clause-refused : goal.returns-in-Err-clause-refused
returns-in-Err-clause-refused c =
    let some = c.widening.invariant.some in
    let more = c.widening-test.true in
    all_refused (c.widening.done + 1) c.args.count c.in-Err.refusal (omega (arith, some)) (omega (arith, more)) c.in-Err.ensures.refused
