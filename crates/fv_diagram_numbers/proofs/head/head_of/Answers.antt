use Rattle.std.proofs.Common.{rules}
use Rattle.fv_diagram_numbers.proofs.head.head_of.Goals as goal

pub loop-i-init : goal.loop-i-init
loop-i-init c = search rules
