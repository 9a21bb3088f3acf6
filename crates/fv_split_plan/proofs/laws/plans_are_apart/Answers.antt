use Rattle.fv_split_plan.proofs.lemmas.TaskLemmas.{plans_are_apart}
use Rattle.fv_split_plan.proofs.laws.plans_are_apart.Goals as goal

pub returns : goal.returns
returns c = plans_are_apart
