use Rattle.fv_diagram.proofs.lemmas.Composed.{composed_is_well}
use Rattle.fv_diagram.proofs.laws.composed_is_well.Goals as goal

pub returns : goal.returns
returns c = composed_is_well
