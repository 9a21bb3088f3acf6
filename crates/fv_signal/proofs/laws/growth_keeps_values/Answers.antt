use Rattle.fv_signal.proofs.lemmas.Solutions.{growth_keeps_values}
use Rattle.fv_signal.proofs.laws.growth_keeps_values.Goals as goal

pub returns : goal.returns
returns c = growth_keeps_values
