use Rattle.fv_parse_grammar.proofs.Places.{stops_where_none_goes_on}
use Rattle.fv_parse_grammar.proofs.prefixes.stops_where_none_goes_on.Goals as goal

pub returns : goal.returns
returns c = stops_where_none_goes_on c.reads_what_is_spelled.ensures.complete c.reads_what_is_spelled.ensures.nesting
