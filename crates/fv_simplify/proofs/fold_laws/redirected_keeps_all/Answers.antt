use Rattle.fv_simplify.proofs.lemmas.Kept.{redirected_keeps_all}
use Rattle.fv_simplify.proofs.fold_laws.redirected_keeps_all.Goals as goal

pub returns : goal.returns
returns c = redirected_keeps_all
