use Rattle.std.proofs.Common.{rules}
use Rattle.fv_eval_drawing.proofs.diagrams.Drawing.takes_the_right.Goals as goal

pub returns-in-Prim-Prefix : goal.returns-in-Prim-Prefix
returns-in-Prim-Prefix c = search rules
