use Rattle.fv_num.proofs.Encloses.{powers_are_least}
use Rattle.fv_num.proofs.laws.powers_are_least.Goals as goal

pub returns : goal.returns
returns c = powers_are_least
