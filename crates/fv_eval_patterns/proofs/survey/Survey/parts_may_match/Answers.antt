use Rattle.std.proofs.Common.{rules}
use Rattle.fv_eval_patterns.proofs.survey.Survey.parts_may_match.Goals as goal

pub returns : goal.returns
returns c = search rules
