use Rattle.fv_signal.proofs.lemmas.Values.{delays_are_clamped}
use Rattle.fv_signal.proofs.laws.delays_are_clamped.Goals as goal

pub returns : goal.returns
returns c = delays_are_clamped
