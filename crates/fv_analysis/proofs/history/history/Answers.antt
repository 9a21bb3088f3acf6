use Rattle.std.proofs.Common.{rules}
use Rattle.fv_analysis.proofs.history.history.Goals as goal

pub returns-then-delay-gt0 : goal.returns-then-delay-gt0
returns-then-delay-gt0 c = search rules
