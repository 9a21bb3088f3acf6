use Rattle.fv_jobs.proofs.Between.{between}
use Rattle.fv_jobs.proofs.laws.jobs_are_between.Goals as goal

pub returns : goal.returns
returns c = between
