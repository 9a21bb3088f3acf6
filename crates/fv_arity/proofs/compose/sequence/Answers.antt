use Rattle.std.proofs.Common.{rules}
use Rattle.fv_arity.proofs.compose.sequence.Goals as goal

pub returns-else-a-b : goal.returns-else-a-b
returns-else-a-b c = search rules
