use Rattle.fv_signal.proofs.lemmas.Solutions.{solutions_are_values_on}
use Rattle.fv_signal.proofs.laws.solutions_are_values_on.Goals as goal

pub returns : goal.returns
returns c = solutions_are_values_on
