use Rattle.std.proofs.Common.{arith}
use Rattle.fv_parse_grammar.proofs.lemmas.Sound.{program_sound}
use Rattle.fv_parse_grammar.proofs.lemmas.Complete.{program_complete, nests_among}
use Rattle.fv_parse_grammar.proofs.laws.reads_what_is_spelled.Goals as goal

pub returns-clause-sound : goal.returns-clause-sound
returns-clause-sound c = program_sound

pub returns-clause-complete : goal.returns-clause-complete
returns-clause-complete c = λ limit ts x. program_complete ts x limit

pub returns-clause-nesting : goal.returns-clause-nesting
returns-clause-nesting c = λ limit ts h. nests_among limit 0 ts (omega arith)
