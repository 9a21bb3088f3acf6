use Rattle.fv_parse_grammar.proofs.Programs.{stops_behind_a_beginning}
use Rattle.fv_parse_grammar.proofs.prefixes.stops_behind_a_beginning.Goals as goal

pub returns : goal.returns
returns c = stops_behind_a_beginning
