use Rattle.std.proofs.Common.{arith}
use Rattle.std.proofs.lemmas.Grind.{common_steps}
use Rattle.fv_diagram_numbers.proofs.fixed.turn.Goals as goal

pub returns-in-Leave : goal.returns-in-Leave
returns-in-Leave c = grind (arith, common_steps)
