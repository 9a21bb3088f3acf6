use Rattle.fv_simplify.proofs.lemmas.Redirected.{redirected_is_graph}
use Rattle.fv_simplify.proofs.fold_laws.redirected_is_graph.Goals as goal

pub returns : goal.returns
returns c = redirected_is_graph
