use Rattle.std.proofs.Common.{rules}
use Rattle.fv_eval_drawing.proofs.diagrams.Drawing.number_of.Goals as goal

pub returns-clause-number : goal.returns-clause-number
returns-clause-number c = search rules
