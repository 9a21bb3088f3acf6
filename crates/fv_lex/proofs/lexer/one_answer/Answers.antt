use Rattle.fv_lex.proofs.Unique.{at_most_one}
use Rattle.fv_lex.proofs.Total.{at_least_one}
use Rattle.fv_lex.proofs.lexer.one_answer.Goals as goal

pub returns-clause-at_most : goal.returns-clause-at_most
returns-clause-at_most c = at_most_one

pub returns-clause-at_least : goal.returns-clause-at_least
returns-clause-at_least c = at_least_one
