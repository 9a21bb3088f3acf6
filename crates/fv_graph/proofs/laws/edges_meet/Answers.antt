use Rattle.fv_graph.proofs.lemmas.Graphs.{is_wires}
use Rattle.fv_graph.proofs.laws.edges_meet.Goals as goal

pub returns : goal.returns
returns h g ig = is_wires g ig
