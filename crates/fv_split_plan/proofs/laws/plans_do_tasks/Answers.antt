use Rattle.fv_split_plan.proofs.lemmas.TaskLemmas.{plans_do_tasks}
use Rattle.fv_split_plan.proofs.laws.plans_do_tasks.Goals as goal

pub returns : goal.returns
returns c = plans_do_tasks
