use Rattle.fv_split_plan.proofs.lemmas.TaskLemmas.{outputs_need_loops}
use Rattle.fv_split_plan.proofs.laws.outputs_need_loops.Goals as goal

pub returns : goal.returns
returns c = outputs_need_loops
