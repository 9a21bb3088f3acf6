use Rattle.std.proofs.Common.{rules}
use Rattle.fv_lex.proofs.symbol.primitive_word.Goals as goal

pub returns-then-is-12 : goal.returns-then-is-12
returns-then-is-12 c = search rules

pub returns-then-is-8 : goal.returns-then-is-8
returns-then-is-8 c = search rules
