use Rattle.std.proofs.Common.{rules}
use Rattle.fv_eval_patterns.proofs.shapes.number_is.Goals as goal

pub returns-in-Number : goal.returns-in-Number
returns-in-Number c = search rules
