use Rattle.fv_top_program.proofs.lemmas.Programs.{text_once, text_some, text_others}
use Rattle.fv_top_program.proofs.text_laws.one_program.Goals as goal

pub returns-clause-once : goal.returns-clause-once
returns-clause-once c = text_once c.one_answer.ensures.at_most c.spelled_once.ensures c.one_outcome.ensures.once c.one_outcome.ensures.apart

pub returns-clause-some : goal.returns-clause-some
returns-clause-some c = text_some c.one_answer.ensures.at_least c.one_outcome.ensures.either

pub returns-clause-either : goal.returns-clause-either
returns-clause-either c = text_others c.one_answer.ensures.at_least c.one_outcome.ensures.either
