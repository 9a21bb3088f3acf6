use Rattle.std.proofs.Common.{rules}
use Rattle.fv_parse_tree.proofs.tables.operator.Goals as goal

pub returns-in-Minus : goal.returns-in-Minus
returns-in-Minus c = search rules
