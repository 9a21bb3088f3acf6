use Rattle.std.proofs.Common.{rules}
use Rattle.fv_arity.proofs.compose.is_multiple.Goals as goal

pub returns-then-m-ge1 : goal.returns-then-m-ge1
returns-then-m-ge1 c = search rules
