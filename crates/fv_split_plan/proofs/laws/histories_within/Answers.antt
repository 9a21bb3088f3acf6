use Rattle.fv_split_plan.proofs.lemmas.TaskLemmas.{histories_within}
use Rattle.fv_split_plan.proofs.laws.histories_within.Goals as goal

pub returns : goal.returns
returns c = histories_within
