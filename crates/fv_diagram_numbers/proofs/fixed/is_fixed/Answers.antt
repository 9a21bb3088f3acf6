use Rattle.std.proofs.Common.{rules}
use Rattle.fv_diagram_numbers.proofs.fixed.is_fixed.Goals as goal

pub returns : goal.returns
returns c = search rules
