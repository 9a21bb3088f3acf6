use Rattle.std.proofs.Common.{drop}
use Rattle.fv_eval_drawing.proofs.Kept.{Operates}
use Rattle.fv_eval_drawing.proofs.diagrams.Drawing.from_left.Given as goal

abbrev pub invariant-operating : goal.invariant-operating
invariant-operating l = Operates l.initial.self l.self l.op l.fn.first l.others (drop l.part-index l.others) l.whole
