use Rattle.std.proofs.Common.{arith}
use Rattle.std.proofs.lemmas.Grind.{common_steps}
use Rattle.fv_eval_patterns.proofs.trials.Trials.range.Goals as goal

pub returns : goal.returns
returns c = grind (arith, common_steps)
