use Rattle.fv_jobs.proofs.Heard.{hear}
use Rattle.fv_jobs.proofs.control_laws.jobs_hear_their_changes.Goals as goal

pub returns : goal.returns
returns c = hear
