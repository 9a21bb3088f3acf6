use Rattle.std.proofs.Common.{arith}
use Rattle.std.proofs.lemmas.Grind.{common_steps}
use Rattle.fv_diagram_numbers.proofs.head.give_two.Goals as goal

pub returns : goal.returns
returns c = grind (arith, common_steps)
