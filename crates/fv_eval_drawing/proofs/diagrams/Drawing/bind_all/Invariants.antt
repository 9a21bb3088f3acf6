use Rattle.fv_eval_drawing.proofs.Kept.{Binds}
use Rattle.fv_eval_drawing.proofs.diagrams.Drawing.bind_all.Given as goal

abbrev pub invariant-binding : goal.invariant-binding
invariant-binding l = Binds l.initial.self l.self l.slot l.slots l.left l.fn.body l.whole

abbrev pub decreases-binding : goal.decreases-binding
decreases-binding l = l.left
