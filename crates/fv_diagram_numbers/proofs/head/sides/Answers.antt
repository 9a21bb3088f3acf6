use Rattle.std.proofs.Common.{rules}
use Rattle.fv_diagram_numbers.proofs.head.sides.Goals as goal

pub returns-in-Par : goal.returns-in-Par
returns-in-Par c = search rules
