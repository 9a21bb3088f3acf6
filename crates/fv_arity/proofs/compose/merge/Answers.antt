use Rattle.std.proofs.Common.{rules}
use Rattle.fv_arity.proofs.compose.merge.Goals as goal

pub returns-else-is_multiple : goal.returns-else-is_multiple
returns-else-is_multiple c = search rules

pub returns-then-is_multiple : goal.returns-then-is_multiple
returns-then-is_multiple c = search rules
