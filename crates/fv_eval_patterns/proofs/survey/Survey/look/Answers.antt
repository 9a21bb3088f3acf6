use Rattle.std.proofs.Common.{rules}
use Rattle.fv_eval_patterns.proofs.survey.Survey.look.Goals as goal

pub returns-in-None-clause-sees : goal.returns-in-None-clause-sees
returns-in-None-clause-sees c = search rules
