use Rattle.fv_rules.proofs.Steps.{step_means, start_means}
use Rattle.fv_rules.proofs.machine_laws.steps_mean.Goals as goal

pub returns-clause-steps : goal.returns-clause-steps
returns-clause-steps c = step_means c.evaluation_follows.ensures.value c.evaluation_follows.ensures.diagram

pub returns-clause-starts : goal.returns-clause-starts
returns-clause-starts c = start_means
