use Rattle.std.proofs.Common.{rules}
use Rattle.fv_arity.proofs.compose.primitive.Goals as goal

pub returns-in-Attach : goal.returns-in-Attach
returns-in-Attach c = search rules
