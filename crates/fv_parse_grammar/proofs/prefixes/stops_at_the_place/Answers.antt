use Rattle.fv_parse_grammar.proofs.Places.{stops_at_the_place, one_place}
use Rattle.fv_parse_grammar.proofs.prefixes.stops_at_the_place.Goals as goal

pub returns-clause-place : goal.returns-clause-place
returns-clause-place c = stops_at_the_place c.reads_what_is_spelled.ensures.complete c.reads_what_is_spelled.ensures.nesting

pub returns-clause-unique : goal.returns-clause-unique
returns-clause-unique c = one_place
