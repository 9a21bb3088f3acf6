use Rattle.fv_graph.proofs.Law as law
use Rattle.fv_graph.proofs.core_laws.tasks_run_once.Goals as goal

pub returns : goal.returns
returns g n workers events z net some e = law.core_law n net workers events z some e
