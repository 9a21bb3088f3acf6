use Rattle.std.proofs.Common.{arith}
use Rattle.std.proofs.lemmas.Grind.{common_steps}
use Rattle.fv_au.proofs.ahead.Ahead.keep_more.Goals as goal

pub returns-clause-left : goal.returns-clause-left
returns-clause-left g c = grind (arith, common_steps)

pub returns-clause-more : goal.returns-clause-more
returns-clause-more g c = grind (arith, common_steps)
