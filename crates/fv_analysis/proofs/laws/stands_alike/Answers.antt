use Rattle.fv_analysis.proofs.lemmas.StandLemmas.{stands_alike}
use Rattle.fv_analysis.proofs.laws.stands_alike.Goals as goal

pub returns : goal.returns
returns c = stands_alike
