use Rattle.fv_rules.proofs.Valid as valid
use Rattle.fv_rules.proofs.laws.evaluates_to_runnables.Goals as goal

pub returns-clause-runs : goal.returns-clause-runs
returns-clause-runs c = valid.evaluates_to_runnables

pub returns-clause-cause : goal.returns-clause-cause
returns-clause-cause c = valid.never_wants_memory
