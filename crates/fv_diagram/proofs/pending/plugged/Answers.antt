use Rattle.std.proofs.Common.{arith}
use Rattle.std.proofs.lemmas.Grind.{common_steps}
use Rattle.fv_diagram.proofs.pending.plugged.Goals as goal

pub loop-i-preserved : goal.loop-i-preserved
loop-i-preserved c = grind (arith, common_steps)

pub returns-then-plug-slot : goal.returns-then-plug-slot
returns-then-plug-slot c = grind (arith, common_steps)
