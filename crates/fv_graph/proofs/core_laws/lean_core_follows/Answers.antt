use Rattle.fv_graph.proofs.LeanLemmas.{lean_law}
use Rattle.fv_graph.proofs.core_laws.lean_core_follows.Goals as goal

pub returns : goal.returns
returns g n workers events z net some e = lean_law n net workers events z some e
