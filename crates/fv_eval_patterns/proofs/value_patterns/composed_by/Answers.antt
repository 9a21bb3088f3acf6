use Rattle.std.proofs.Common.{rules}
use Rattle.fv_eval_patterns.proofs.value_patterns.composed_by.Goals as goal

pub returns-in_default-clause-trees : goal.returns-in_default-clause-trees
returns-in_default-clause-trees c = search rules
