use Rattle.fv_parse_grammar.proofs.lemmas.Complete.{one_program}
use Rattle.fv_parse_grammar.proofs.laws.spelled_once.Goals as goal

pub returns : goal.returns
returns c = one_program
