use Rattle.std.proofs.Common.{rules}
use Rattle.fv_eval_patterns.proofs.shapes.is_same_shape.Goals as goal

pub returns : goal.returns
returns c = search rules
