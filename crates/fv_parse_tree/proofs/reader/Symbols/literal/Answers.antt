use Rattle.std.proofs.Common.{arith}
use Rattle.std.proofs.lemmas.Grind.{common_steps}
use Rattle.fv_parse_tree.proofs.reader.Symbols.literal.Goals as goal

pub returns-in_ok-n-in-Minus-clause-is : goal.returns-in_ok-n-in-Minus-clause-is
returns-in_ok-n-in-Minus-clause-is c = grind (arith, common_steps)
