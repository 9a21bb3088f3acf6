use Rattle.fv_parse_grammar.proofs.Programs.{beginnings_are_closed, programs_begin}
use Rattle.fv_parse_grammar.proofs.prefixes.beginnings_are_closed.Goals as goal

pub returns-clause-closed : goal.returns-clause-closed
returns-clause-closed c = beginnings_are_closed

pub returns-clause-whole : goal.returns-clause-whole
returns-clause-whole c = programs_begin
