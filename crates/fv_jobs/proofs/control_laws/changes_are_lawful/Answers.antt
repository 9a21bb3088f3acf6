use Rattle.fv_jobs.proofs.Heard.{order, of_controls}
use Rattle.fv_jobs.proofs.control_laws.changes_are_lawful.Goals as goal

pub returns-clause-order : goal.returns-clause-order
returns-clause-order c = order

pub returns-clause-controls : goal.returns-clause-controls
returns-clause-controls c = of_controls
