use Rattle.fv_parse.proofs.Endings.{only_answer, exact_answer, accepted_answer}
use Rattle.fv_parse.proofs.parser.parse.Goals as goal

pub returns-clause-only : goal.returns-clause-only
returns-clause-only c = only_answer c.spelled_once.ensures c.args.tokens.now c.answer.result c.answer.ensures.tree

pub returns-clause-exact : goal.returns-clause-exact
returns-clause-exact c =
    exact_answer c.one_outcome.ensures.once c.one_outcome.ensures.apart c.args.tokens.now c.answer.result c.answer.ensures.tree c.answer.ensures.refusal

pub returns-clause-accepted : goal.returns-clause-accepted
returns-clause-accepted c = accepted_answer c.one_outcome.ensures.apart c.args.tokens.now c.answer.result c.answer.ensures.refusal
