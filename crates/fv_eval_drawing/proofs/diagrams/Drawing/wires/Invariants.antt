use Rattle.std.proofs.Common.{◌-◌}
use Rattle.fv_eval_drawing.proofs.Wired.{Widens}
use Rattle.fv_eval_drawing.proofs.diagrams.Drawing.wires.Given as goal

abbrev pub invariant-widening : goal.invariant-widening
invariant-widening l = Widens l.fn.self l.self l.count l.wire l.whole l.done

abbrev pub decreases-widening : goal.decreases-widening
decreases-widening l = l.count - l.done
