use Rattle.std.proofs.Common.{rules}
use Rattle.fv_lex.proofs.symbol.single.Goals as goal

pub returns-in-47 : goal.returns-in-47
returns-in-47 c = search rules
