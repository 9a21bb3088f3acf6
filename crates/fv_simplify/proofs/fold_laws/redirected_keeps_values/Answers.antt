use Rattle.fv_simplify.proofs.lemmas.Redirected.{redirected_keeps_values}
use Rattle.fv_simplify.proofs.fold_laws.redirected_keeps_values.Goals as goal

pub returns : goal.returns
returns c = redirected_keeps_values
