use Rattle.std.proofs.Common.{vec_len}
use Rattle.fv_eval_drawing.proofs.Kept.{Links}
use Rattle.fv_eval_drawing.proofs.diagrams.Drawing.from_right.Given as goal

abbrev pub invariant-linking : goal.invariant-linking
invariant-linking l = Links l.initial.self l.self l.link l.fn.parts.items l.parts.items l.whole

abbrev pub decreases-linking : goal.decreases-linking
decreases-linking l = vec_len l.parts
