use Rattle.std.proofs.Common.{rules}
use Rattle.fv_eval_drawing.proofs.diagrams.Drawing.grow.Goals as goal

pub returns : goal.returns
returns c = search rules
