use Rattle.fv_parse.proofs.Outcomes.{one_refusal, not_both, one_or_other}
use Rattle.fv_parse.proofs.laws.one_outcome.Goals as goal

pub returns-clause-once : goal.returns-clause-once
returns-clause-once c = one_refusal c.spelled_once.ensures c.stops_at_the_place.ensures.unique

pub returns-clause-apart : goal.returns-clause-apart
returns-clause-apart c = not_both c.spelled_once.ensures

pub returns-clause-either : goal.returns-clause-either
returns-clause-either c = one_or_other c.reads_what_is_spelled.ensures.sound c.reads_what_is_spelled.ensures.complete c.stops_at_the_place.ensures.place
