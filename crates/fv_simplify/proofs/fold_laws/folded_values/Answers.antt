use Rattle.fv_simplify.proofs.lemmas.Redirected.{folded_values}
use Rattle.fv_simplify.proofs.fold_laws.folded_values.Goals as goal

pub returns : goal.returns
returns c = folded_values
