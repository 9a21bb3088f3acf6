use Rattle.std.proofs.Common.{rules}
use Rattle.fv_eval_drawing.proofs.diagrams.Drawing.takes_one.Goals as goal

pub returns-then-takes_the_right : goal.returns-then-takes_the_right
returns-then-takes_the_right c = search rules
