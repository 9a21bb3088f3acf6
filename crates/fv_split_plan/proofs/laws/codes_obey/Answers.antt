use Rattle.fv_split_plan.proofs.lemmas.FitsLemmas.{codes_obey}
use Rattle.fv_split_plan.proofs.laws.codes_obey.Goals as goal

pub returns : goal.returns
returns c = codes_obey
