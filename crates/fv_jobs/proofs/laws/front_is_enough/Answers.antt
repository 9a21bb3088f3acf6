use Rattle.fv_jobs.proofs.Fronts.{same, whole}
use Rattle.fv_jobs.proofs.laws.front_is_enough.Goals as goal

pub returns-clause-same : goal.returns-clause-same
returns-clause-same c = same

pub returns-clause-whole : goal.returns-clause-whole
returns-clause-whole c = whole
