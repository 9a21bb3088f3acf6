use Rattle.std.proofs.Common.{rules}
use Rattle.fv_eval_patterns.proofs.value_patterns.has_number.Goals as goal

pub returns-in-Some-clause-number : goal.returns-in-Some-clause-number
returns-in-Some-clause-number c = search rules
