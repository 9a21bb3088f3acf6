use Rattle.std.proofs.Common.{rules}
use Rattle.fv_lex.proofs.lexer.depth_after.Goals as goal

pub returns-in-41 : goal.returns-in-41
returns-in-41 c = search rules
